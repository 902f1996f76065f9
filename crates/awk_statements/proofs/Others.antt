-- The last case of each choice: no terminal that a case before it takes.
use Rattle.std.proofs.Common.{◌≡◌, ◌≢◌, ℕ, false, List, refl}
use Rattle.awk_tokens.specs.declared.token.Token.{Token}
use Rattle.awk_tree.specs.declared.goals.Goal.{Goal}
use Rattle.awk_tree.specs.declared.goals.Nested.{Nested}
use Rattle.awk_tokens.specs.declared.words.Jump.{Jump}
use Rattle.awk_tokens.specs.declared.terminals.Terminal.{Terminal}
use Rattle.awk_tokens.specs.declared.terminals.Terminal.TheVariants as w
use Rattle.awk_tree.specs.Tree as t
use Rattle.awk_tree.specs.Tree.{Tree, Statement}
use Rattle.awk_tree.specs.Expressions.{expression}
use Rattle.awk_tree.specs.Input.{Parser, ◌>>=◌, pure, refuse}
use Rattle.awk_tree.specs.Statements.{ended_by, simple_by, simple, ended, statement_by, item_by, rule_of}

pub ends_nowhere : (x : Statement) (kind : Terminal) (ts : List Token) → kind ≢ w.Semicolon → kind ≢ w.Newline
    → kind ≢ w.CloseBrace → ended_by x kind ts ≡ refuse ts
ends_nowhere x w.Semicolon ts a b c = absurd (a refl)
ends_nowhere x w.Newline ts a b c = absurd (b refl)
ends_nowhere x w.CloseBrace ts a b c = absurd (c refl)
ends_nowhere x _ ts a b c = refl

pub simple_by-other : (depth : ℕ) (inner : Goal → Parser Tree) (kind : Terminal) (ts : List Token)
    → kind ≢ w.Print → kind ≢ w.Printf → kind ≢ w.Delete → ((which : Jump) → kind ≢ w.Jump which) → kind ≢ w.Exit
    → kind ≢ w.Return
    → simple_by depth inner kind ts ≡ (expression depth inner false >>= λ x. pure (t.plain x)) ts
simple_by-other depth inner w.Print ts a b c d e f = absurd (a refl)
simple_by-other depth inner w.Printf ts a b c d e f = absurd (b refl)
simple_by-other depth inner w.Delete ts a b c d e f = absurd (c refl)
simple_by-other depth inner (w.Jump which) ts a b c d e f = absurd (d which refl)
simple_by-other depth inner w.Exit ts a b c d e f = absurd (e refl)
simple_by-other depth inner w.Return ts a b c d e f = absurd (f refl)
simple_by-other depth inner _ ts a b c d e f = refl

pub statement_by-other : (depth : ℕ) (inner : Goal → Parser Tree) (body : Nested → Parser Statement) (kind : Terminal)
    (ts : List Token)
    → kind ≢ w.Semicolon → kind ≢ w.OpenBrace → kind ≢ w.If → kind ≢ w.While → kind ≢ w.Do → kind ≢ w.For
    → statement_by depth inner body kind ts ≡ (simple depth inner >>= ended) ts
statement_by-other depth inner body w.Semicolon ts a b c d e f = absurd (a refl)
statement_by-other depth inner body w.OpenBrace ts a b c d e f = absurd (b refl)
statement_by-other depth inner body w.If ts a b c d e f = absurd (c refl)
statement_by-other depth inner body w.While ts a b c d e f = absurd (d refl)
statement_by-other depth inner body w.Do ts a b c d e f = absurd (e refl)
statement_by-other depth inner body w.For ts a b c d e f = absurd (f refl)
statement_by-other depth inner body _ ts a b c d e f = refl

pub item_by-other : (kind : Terminal) (ts : List Token) → kind ≢ w.BeginWord → kind ≢ w.EndWord → kind ≢ w.Function
    → kind ≢ w.OpenBrace → item_by kind ts ≡ rule_of ts
item_by-other w.BeginWord ts a b c d = absurd (a refl)
item_by-other w.EndWord ts a b c d = absurd (b refl)
item_by-other w.Function ts a b c d = absurd (c refl)
item_by-other w.OpenBrace ts a b c d = absurd (d refl)
item_by-other _ ts a b c d = refl
