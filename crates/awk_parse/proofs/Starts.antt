-- What a canonical spelling begins with.
use Rattle.std.proofs.Common.{◌≡◌, ◌≤◌, Bool, true, false, Some, List, [], ◌∷◌, ◌++◌, length, codes, refl, ap, arith}
use Rattle.awk_tokens.specs.declared.token.Token.{Token}
use Rattle.awk_tokens.specs.declared.terminals.Assignment.{Assignment}
use Rattle.awk_tokens.specs.declared.terminals.Assignment.TheVariants as set
use Rattle.awk_tokens.specs.declared.words.Builtin.{Builtin}
use Rattle.awk_tokens.specs.declared.words.Builtin.TheVariants as b
use Rattle.awk_tokens.specs.declared.words.Jump.{Jump}
use Rattle.awk_tokens.specs.declared.words.Jump.TheVariants as j
use Rattle.awk_tree.specs.Looks.{skip}
use Rattle.awk_tree.specs.Looks as looks
use Rattle.awk_tree.specs.declared.operators.Sign.{Sign}
use Rattle.awk_tree.specs.declared.operators.Sign.TheVariants as prefix
use Rattle.awk_tokens.specs.declared.terminals.Step.{Step}
use Rattle.awk_tokens.specs.declared.terminals.Step.TheVariants as by
use Rattle.awk_tokens.specs.declared.terminals.Terminal.{Terminal}
use Rattle.awk_tokens.specs.declared.terminals.Terminal.TheVariants as w
use Rattle.awk_tree.specs.Tree as t
use Rattle.awk_tree.specs.Tree.{Tree, Trees}
use Rattle.awk_tree.specs.Terminals as terminals
use Rattle.awk_tokens.specs.Words.{builtin_text, jump_text}
use Rattle.awk_tree.specs.Terminals.{terminal, terminal_of, is, step_text, assignment_text}
use Rattle.awk_tree.specs.Expressions as e
use Rattle.awk_tree.specs.Canon.{canon, prefix_text, builtin_word}

-- ---- the texts of words are those of their terminals

pub prefix_is : (which : Sign) → looks.sign (terminal (terminals.sign (prefix_text which))) ≡ Some which
unfolding terminal_of
prefix_is prefix.Not = refl
prefix_is prefix.Plus = refl
prefix_is prefix.Minus = refl

pub step_is : (which : Step) → terminal (terminals.sign (step_text which)) ≡ w.Step which
unfolding terminal_of
step_is by.Increment = refl
step_is by.Decrement = refl

pub assignment_is : (how : Assignment) → terminal (terminals.sign (assignment_text how)) ≡ w.Assign how
unfolding terminal_of
assignment_is set.Set = refl
assignment_is set.Add = refl
assignment_is set.Subtract = refl
assignment_is set.Multiply = refl
assignment_is set.Divide = refl
assignment_is set.Remainder = refl
assignment_is set.Power = refl

pub builtin_is : (which : Builtin) → terminal (builtin_word (builtin_text which)) ≡ w.Builtin which
unfolding terminal_of
builtin_is b.Close = refl
builtin_is _ = refl

pub jump_is : (which : Jump) → terminal (terminals.keyword (jump_text which)) ≡ w.Jump which
unfolding terminal_of
jump_is j.Break = refl
jump_is _ = refl

-- ---- the first token

-- what an expression begins with
abbrev pub begins_expression : Terminal → Bool
begins_expression w.Number = true
begins_expression w.Quoted = true
begins_expression w.Pattern = true
begins_expression w.Name = true
begins_expression w.CallName = true
begins_expression (w.Builtin which) = true
begins_expression w.Dollar = true
begins_expression w.Not = true
begins_expression w.Plus = true
begins_expression w.Minus = true
begins_expression w.OpenParen = true
begins_expression (w.Step which) = true
begins_expression w.Getline = true
begins_expression other = false

abbrev pub Starts : List Token → Type 0
Starts [] = ⊥
Starts (t ∷ ts) = begins_expression (terminal t) ≡ true

pub starts_append : (a b : List Token) → Starts a → Starts (a ++ b)
starts_append [] b h = absurd h
starts_append (t ∷ ts) b h = h

pub starts : (x : Tree) → Starts (canon x)
unfolding terminal_of
starts (t.number p x) = refl
starts (t.quoted p x) = refl
starts (t.pattern p x) = refl
starts (t.name n) = refl
starts (t.element n xs) = refl
starts (t.field p x) = refl
starts (t.paren p x) = refl
starts (t.call n xs) = refl
starts (t.builtin p which xs) = ap begins_expression (builtin_is which)
starts (t.bare_length p) = refl
starts (t.split p x n y) = refl
starts (t.substitute p true x y z) = refl
starts (t.substitute p false x y z) = refl
starts (t.getline p x y) = refl
starts (t.before p which x) = ap begins_expression (step_is which)
starts (t.after x p which) = starts_append (canon x) _ (starts x)
starts (t.signed p prefix.Not x) = refl
starts (t.signed p prefix.Plus x) = refl
starts (t.signed p prefix.Minus x) = refl
starts (t.power x p y) = starts_append (canon x) _ (starts x)
starts (t.product x xs) = starts_append (canon x) _ (starts x)
starts (t.sum x xs) = starts_append (canon x) _ (starts x)
starts (t.concat x xs) = starts_append (canon x) _ (starts x)
starts (t.pipe x xs) = starts_append (canon x) _ (starts x)
starts (t.compare x p how y) = starts_append (canon x) _ (starts x)
starts (t.matched x p unlike y) = starts_append (canon x) _ (starts x)
starts (t.group p xs ms) = refl
starts (t.member x ms) = starts_append (canon x) _ (starts x)
starts (t.and x xs) = starts_append (canon x) _ (starts x)
starts (t.or x xs) = starts_append (canon x) _ (starts x)
starts (t.choose x y z) = starts_append (canon x ++ terminals.sign (codes "?") ∷ canon y) _
    (starts_append (canon x) _ (starts x))
starts (t.assign x p how y) = starts_append (canon x) _ (starts x)

pub starts_some : (a : List Token) → Starts a → 1 ≤ length a
starts_some [] h = absurd h
starts_some (t ∷ ts) h = omega arith

pub no_line : (kind : Terminal) → begins_expression kind ≡ true → is kind w.Newline ≡ false
no_line w.Newline h = absurd cc
no_line _ h = refl

-- no newline comes first
pub skip_starts : (a s : List Token) → Starts a → skip (a ++ s) ≡ a ++ s
skip_starts [] s h = absurd h
skip_starts (t ∷ ts) s h = let l = no_line (terminal t) h in rw l refl
