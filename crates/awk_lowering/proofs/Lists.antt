-- Lists of trees, and lists of what is handed on and of getlines, one by one.
use Rattle.std.proofs.Common.{◌≡◌, ◌∙◌, ℕ, zero, suc, ◌+◌, ◌-◌, ◌<◌, ◌≤◌, Bool, List, [], ◌∷◌, ◌++◌, map, Result, Some}
use Rattle.std.proofs.Common.{length, get_or, drop, take, option_map, ap, sym, refl, arith}
use Rattle.awk_tree.specs.Tree as t
use Rattle.awk_tree.specs.Tree.{Tree, Trees, trees_of, perhaps_of, terms_of, pipes_of}
use Rattle.awk_tree.specs.View as tree
use Rattle.awk_text.specs.declared.place.Place.{Place}
use Rattle.awk_tokens.specs.declared.words.Builtin as tree_builtin
use Rattle.awk_tokens.specs.declared.words.Builtin.TheVariants as b
use Rattle.awk_tree.specs.declared.expressions.Expr as tree_expr
use Rattle.awk_tree.specs.declared.expressions.Piped as tree_piped
use Rattle.awk_tree.specs.declared.expressions.Term as tree_term
use Rattle.awk_resolve.specs.Mentions.{bare}
use Rattle.awk_program.specs.declared.builtins.Builtin.{Builtin}
use Rattle.awk_program.specs.declared.expressions.Expr.{Expr}
use Rattle.awk_program.specs.declared.expressions.Piped.{Piped}
use Rattle.awk_program.specs.declared.expressions.Argument.{Argument}
use Rattle.awk_program.specs.declared.expressions.Argument.TheVariants as argument_case
use Rattle.awk_program.specs.Program as p
use Rattle.awk_program.specs.Program.{Expressions, Pipes, Arguments, expressions_of, joins_of}
use Rattle.awk_program.specs.View.{Names, variable_of, view, view_target, view_pipes, view_arguments}
use Rattle.awk_lowering.specs.Forms.{called, operator_of, plain_builtin, unwritten}
use Rattle.awk_lowering.specs.Lowered.{built, located, plain, lowered, lowered_text, lowered_list, lowered_terms}
use Rattle.awk_lowering.specs.Lowered.{lowered_joins, lowered_pipes, target_or_record, arguments, argument, takes_array}
use Rattle.awk_lowering.specs.Lowered.{later}
use Rattle.awk_lowering.specs.LoweredStatements.{statement, statements}
use Rattle.awk_lowering.specs.Made.{with_argument, IsArgument, IsPiped}
use Rattle.awk_lowering.specs.OneByOne.{first_lowered, lowered_term, lowered_join, then_pipes, then_arguments}
use Rattle.awk_lowering.specs.Scopes.{Scope}
use Rattle.awk_lowering.specs.Starts.{start}
use Rattle.awk_lowering.specs.Texts.{first_textuals}
use Rattle.awk_lowering.proofs.Carried.{Pushed, drop_here, take_all}
use Rattle.awk_lowering.proofs.Wanted.{list_is, firsts_are}

-- ---- built-in functions

pub called_some : (c : Scope) (q : Place) (which : Builtin) (n : ℕ) (xs : List tree_expr.Expr) → 1 ≤ length xs →
    called q which (first_textuals c.numbers q n (lowered_list c (trees_of (map tree.view xs))))
    ≡ p.builtin q which (expressions_of (first_lowered c q n (map tree.view xs)))
called_some c q which n [] some = absurd (omega (arith, some))
called_some c q which zero (x ∷ xs) some = ap (λ ys. p.builtin q which (p.more (lowered c (tree.view x)) ys))
    (list_is c (map tree.view xs))
called_some c q which (suc n) (x ∷ xs) some =
    ap (λ ys. p.builtin q which (p.more (lowered_text c q (tree.view x)) ys)) (firsts_are c q n (map tree.view xs))

pub plainly : (c : Scope) (q : Place) (which : tree_builtin.Builtin) (runs : Builtin) (xs : Trees) (us : Expressions)
    → plain_builtin which ≡ Some runs → built c q which xs us ≡ plain c q (Some runs) xs us
plainly c q b.Match runs xs us e = absurd (cc)
plainly c q which runs xs us e = ap (λ o. plain c q o xs us) e

-- match takes two arguments
pub located_else : (q : Place) (xs : List tree_expr.Expr) (us : Expressions) → (length xs ≡ 2 → ⊥)
    → located q (trees_of (map tree.view xs)) us ≡ unwritten
located_else q [] us other = refl
located_else q (x ∷ []) us other = refl
located_else q (x ∷ y ∷ []) us other = absurd (other refl)
located_else q (x ∷ y ∷ z ∷ xs) us other = refl

pub terms_are : (c : Scope) (xs : List (tree_term.Term Tree)) → lowered_terms c (terms_of xs)
    ≡ p.terms_of (map (lowered_term c) xs)
terms_are c [] = refl
terms_are c (x ∷ xs) = ap (λ ys. p.term (operator_of x.operator) x.place (lowered c x.operand) ys) (terms_are c xs)

pub joins_are : (c : Scope) (xs : List Tree) → lowered_joins c (trees_of xs) ≡ joins_of (map (lowered_join c) xs)
joins_are c [] = refl
joins_are c (x ∷ xs) = ap (λ ys. p.join (start x) (lowered_text c (start x) x) ys) (joins_are c xs)

-- ---- what is handed to a function

pub arguments_end : (xs : Arguments) → then_arguments xs p.no_arguments ≡ xs
arguments_end p.no_arguments = refl
arguments_end (p.by_value x xs) = ap (λ ys. p.by_value x ys) (arguments_end xs)
arguments_end (p.by_name v xs) = ap (λ ys. p.by_name v ys) (arguments_end xs)
arguments_end (p.by_nothing xs) = ap (λ ys. p.by_nothing ys) (arguments_end xs)

arguments_push : (t : Names) (old : List (Argument Expr)) (a : Argument Expr) (rest : Arguments)
    → then_arguments (view_arguments t (old ++ a ∷ [])) rest ≡ then_arguments (view_arguments t old)
    (with_argument t a rest)
arguments_push t [] (argument_case.Value x) rest = refl
arguments_push t [] (argument_case.Array v) rest = refl
arguments_push t [] argument_case.Nothing rest = refl
arguments_push t (argument_case.Value x ∷ old) a rest = ap (λ ys. p.by_value (view t x) ys)
    (arguments_push t old a rest)
arguments_push t (argument_case.Array v ∷ old) a rest = ap (λ ys. p.by_name (variable_of t v) ys)
    (arguments_push t old a rest)
arguments_push t (argument_case.Nothing ∷ old) a rest = ap (λ ys. p.by_nothing ys) (arguments_push t old a rest)

pub arguments_turn : {E : Type 0} (t : Names) (c : Scope) (all : Arguments) (old new : List (Argument Expr))
    (next : Result (Argument Expr) E) (are : List Bool) (x : tree_expr.Expr) (xs : List tree_expr.Expr) (i : ℕ)
    → i < length xs → x ≡ get_or xs i x
    → IsArgument t next (argument c (takes_array are) (bare (tree.view x)) (lowered c (tree.view x)))
    → Pushed old new next
    → all ≡ then_arguments (view_arguments t old) (arguments c are (trees_of (map tree.view (drop i xs))))
    → all ≡ then_arguments (view_arguments t new) (arguments c (later are) (trees_of (map tree.view (drop (i + 1) xs))))
arguments_turn t c all old new next are x xs i h e made (y, is, pushed) far =
    let same : (rest : Arguments) → with_argument t y rest ≡ argument c (takes_array are) (bare (tree.view x))
    (lowered c (tree.view x)) rest = rw is at made in
    let left : Arguments = arguments c (later are) (trees_of (map tree.view (drop (i + 1) xs))) in
    far ∙ ap (λ ys. then_arguments (view_arguments t old) (arguments c are (trees_of (map tree.view ys))))
    (drop_here xs i x h e)
    ∙ ap (then_arguments (view_arguments t old)) (sym (same left)) ∙ sym (arguments_push t old y left)
    ∙ ap (λ ys. then_arguments (view_arguments t ys) left) (sym pushed)

pub later_is : (are : List Bool) → 1 ≤ length are → take (length are - 1) (drop 1 are) ≡ later are
later_is [] n = absurd (omega (arith, n))
later_is (b ∷ are) n = take_all are (length (b ∷ are) - 1) (omega arith)

-- ---- getlines behind a command

pub pipes_end : (xs : Pipes) → then_pipes xs p.no_pipes ≡ xs
pipes_end p.no_pipes = refl
pipes_end (p.piped q r xs) = ap (λ ys. p.piped q r ys) (pipes_end xs)

pipes_push : (t : Names) (old : List (Piped Expr)) (a : Piped Expr) (rest : Pipes)
    → then_pipes (view_pipes t (old ++ a ∷ [])) rest ≡ then_pipes (view_pipes t old)
    (p.piped a.place (view_target t a.target) rest)
pipes_push t [] a rest = refl
pipes_push t (x ∷ old) a rest = ap (λ ys. p.piped x.place (view_target t x.target) ys) (pipes_push t old a rest)

pub pipes_turn : {E : Type 0} (t : Names) (c : Scope) (all : Pipes) (old new : List (Piped Expr))
    (next : Result (Piped Expr) E) (x : tree_piped.Piped tree_expr.Expr) (xs : List (tree_piped.Piped tree_expr.Expr))
    (i : ℕ)
    → i < length xs → x ≡ get_or xs i x
    → IsPiped t next x.place (target_or_record c x.place (perhaps_of (option_map tree.view x.target)))
    → Pushed old new next
    → all ≡ then_pipes (view_pipes t old) (lowered_pipes c (pipes_of (map tree.view_piped (drop i xs))))
    → all ≡ then_pipes (view_pipes t new) (lowered_pipes c (pipes_of (map tree.view_piped (drop (i + 1) xs))))
pipes_turn t c all old new next x xs i h e made (y, is, pushed) far =
    let same : (y.place ≡ x.place)
    × (view_target t y.target ≡ target_or_record c x.place (perhaps_of (option_map tree.view x.target))) =
    rw is at made in
    let left : Pipes = lowered_pipes c (pipes_of (map tree.view_piped (drop (i + 1) xs))) in
    far ∙ ap (λ ys. then_pipes (view_pipes t old) (lowered_pipes c (pipes_of (map tree.view_piped ys))))
    (drop_here xs i x h e)
    ∙ ap (λ q. then_pipes (view_pipes t old)
    (p.piped q (target_or_record c x.place (perhaps_of (option_map tree.view x.target))) left)) (sym same.0)
    ∙ ap (λ r. then_pipes (view_pipes t old) (p.piped y.place r left)) (sym same.1)
    ∙ sym (pipes_push t old y left) ∙ ap (λ ys. then_pipes (view_pipes t ys) left) (sym pushed)

-- ---- statements

pub statements_are : (c : Scope) (xs : List t.Statement) → statements c (t.statements_of xs) ≡ p.statements_of
    (map (statement c) xs)
statements_are c [] = refl
statements_are c (x ∷ xs) = ap (λ ys. p.then_also (statement c x) ys) (statements_are c xs)
