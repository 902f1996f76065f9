-- What the walks over a tree use up.
use Rattle.std.proofs.Common.{ℕ, ◌+◌, ◌<◌, List, [], ◌∷◌, arith, suc, zero, length, get_or, map, option_map}
use Rattle.awk_tree.specs.declared.expressions.Expr.{Expr}
use Rattle.awk_tree.specs.declared.expressions.Term.{Term}
use Rattle.awk_tree.specs.declared.expressions.Piped.{Piped}
use Rattle.awk_tree.specs.declared.statements.Statement as code
use Rattle.awk_tree.specs.Tree as t
use Rattle.awk_tree.specs.Tree.{Tree, Trees, Perhaps, Terms, Pipes, trees_of, perhaps_of, terms_of, pipes_of, Statement}
use Rattle.awk_tree.specs.Tree.{Statements, statements_of}
use Rattle.awk_tree.specs.View.{view, view_term, view_piped, view_statement}

abbrev mutual
  pub weight : Tree → ℕ
  weight (t.number p x) = 1
  weight (t.quoted p x) = 1
  weight (t.pattern p x) = 1
  weight (t.name n) = 1
  weight (t.element n xs) = 3 + weights xs
  weight (t.field p x) = 1 + weight x
  weight (t.paren p x) = 1 + weight x
  weight (t.call f xs) = 3 + weights xs
  weight (t.builtin p b xs) = 3 + weights xs
  weight (t.bare_length p) = 1
  weight (t.split p x n y) = 3 + (weight x + weight_perhaps y)
  weight (t.substitute p all x y z) = 3 + (weight x + weight y + weight_perhaps z)
  weight (t.getline p x y) = 3 + (weight_perhaps x + weight_perhaps y)
  weight (t.before p s x) = 1 + weight x
  weight (t.after x p s) = 1 + weight x
  weight (t.signed p s x) = 1 + weight x
  weight (t.power x p y) = 1 + (weight x + weight y)
  weight (t.product x ts) = 3 + (weight x + weight_terms ts)
  weight (t.sum x ts) = 3 + (weight x + weight_terms ts)
  weight (t.concat x xs) = 3 + (weight x + weights xs)
  weight (t.pipe x ps) = 3 + (weight x + weight_pipes ps)
  weight (t.compare x p c y) = 1 + (weight x + weight y)
  weight (t.matched x p unlike y) = 1 + (weight x + weight y)
  weight (t.group p xs ms) = 3 + weights xs
  weight (t.member x ms) = 1 + weight x
  weight (t.and x xs) = 3 + (weight x + weights xs)
  weight (t.or x xs) = 3 + (weight x + weights xs)
  weight (t.choose x y z) = 1 + (weight x + weight y + weight z)
  weight (t.assign x p a y) = 1 + (weight x + weight y)

  pub weights : Trees → ℕ
  weights t.none = 0
  weights (t.more x xs) = weight x + weights xs

  pub weight_perhaps : Perhaps → ℕ
  weight_perhaps t.absent = 0
  weight_perhaps (t.present x) = weight x

  pub weight_terms : Terms → ℕ
  weight_terms t.no_terms = 0
  weight_terms (t.term a p x ts) = weight x + weight_terms ts

  pub weight_pipes : Pipes → ℕ
  weight_pipes t.no_pipes = 0
  weight_pipes (t.piped p x ps) = 2 + weight_perhaps x + weight_pipes ps

pub item_weight : (xs : List Expr) (i : ℕ) (d : Expr) → i < length xs → weight (view (get_or xs i d)) < 1 + weights
    (trees_of (map view xs))
item_weight [] i d h = absurd (omega arith)
item_weight (x ∷ xs) zero d h = omega arith
item_weight (x ∷ xs) (suc i) d h = omega (arith, item_weight xs i d (omega arith))

pub term_weight : (xs : List (Term Expr)) (i : ℕ) (d : Term Expr) → i < length xs
    → weight (view (get_or xs i d).operand) < 1 + weight_terms (terms_of (map view_term xs))
term_weight [] i d h = absurd (omega arith)
term_weight (x ∷ xs) zero d h = omega arith
term_weight (x ∷ xs) (suc i) d h = omega (arith, term_weight xs i d (omega arith))

pub piped_weight : (xs : List (Piped Expr)) (i : ℕ) (d : Piped Expr) → i < length xs
    → 1 + weight_perhaps (perhaps_of (option_map view (get_or xs i d).target)) < 1 + weight_pipes
    (pipes_of (map view_piped xs))
piped_weight [] i d h = absurd (omega arith)
piped_weight (x ∷ xs) zero d h = omega arith
piped_weight (x ∷ xs) (suc i) d h = omega (arith, piped_weight xs i d (omega arith))

abbrev mutual
  pub statement_weight : Statement → ℕ
  statement_weight t.empty = 1
  statement_weight (t.plain x) = 1
  statement_weight (t.print p x r) = 1
  statement_weight (t.printf p x r) = 1
  statement_weight (t.delete n xs) = 1
  statement_weight (t.delete_all n) = 1
  statement_weight (t.jump p which) = 1
  statement_weight (t.exit p x) = 1
  statement_weight (t.return p x) = 1
  statement_weight (t.block xs) = 2 + statement_weights xs
  statement_weight (t.if_then x s) = 1 + statement_weight s
  statement_weight (t.if_else x s u) = 1 + (statement_weight s + statement_weight u)
  statement_weight (t.while_do x s) = 1 + statement_weight s
  statement_weight (t.do_while s x) = 1 + statement_weight s
  statement_weight (t.for_each p k a s) = 1 + statement_weight s
  statement_weight (t.for_loop x y z s) = 1 + statement_weight s

  pub statement_weights : Statements → ℕ
  statement_weights t.no_more = 0
  statement_weights (t.then_also x xs) = statement_weight x + statement_weights xs

pub statement_item_weight : (xs : List code.Statement) (i : ℕ) (d : code.Statement) → i < length xs
    → statement_weight (view_statement (get_or xs i d)) < 1 + statement_weights (statements_of (map view_statement xs))
statement_item_weight [] i d h = absurd (omega arith)
statement_item_weight (x ∷ xs) zero d h = omega arith
statement_item_weight (x ∷ xs) (suc i) d h = omega (arith, statement_item_weight xs i d (omega arith))
