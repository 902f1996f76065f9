-- The program that statements stand for (POSIX.1-2017 XCU awk, "Actions"): each keeps its form, an `if` with `else` and
-- one without too, but for `;` alone, which is an empty block. An action that is not there is `print` (Programs).
use Rattle.std.specs.Prelude.{List, [], ◌∷◌, map, Option, option_map}
use Rattle.awk_text.specs.declared.place.Place.{Place}
use Rattle.awk_tree.specs.Tree as t
use Rattle.awk_tree.specs.Tree.{Tree}
use Rattle.awk_tree.specs.declared.statements.Redirection as tree_redirection
use Rattle.awk_program.specs.declared.statements.Redirection.{Redirection}
use Rattle.awk_program.specs.Program as p
use Rattle.awk_program.specs.Program.{Expression, Statement, Statements}
use Rattle.awk_lowering.specs.Forms.{jump_of, redirect_of, unwritten}
use Rattle.awk_lowering.specs.Scopes.{Scope, variable}
use Rattle.awk_lowering.specs.Lowered.{lowered, lowered_text}

abbrev pub redirected : Scope → tree_redirection.Redirection Tree → Redirection Expression
redirected c x =
    record { how = redirect_of x.how; place = x.place; target = lowered_text c x.place x.target }

-- the first item of printf is its format
abbrev pub printed : Scope → Place → List Tree → Option (Redirection Expression) → Statement
printed c q [] to = p.printf q unwritten [] to
printed c q (x ∷ xs) to = p.printf q (lowered_text c q x) (map (lowered c) xs) to

abbrev mutual
  pub statement : Scope → t.Statement → Statement
  statement c t.empty = p.block p.no_more
  statement c (t.plain x) = p.plain (lowered c x)
  statement c (t.print q xs to) = p.print q (map (lowered c) xs.items) (option_map (redirected c) to)
  statement c (t.printf q xs to) = printed c q xs.items (option_map (redirected c) to)
  statement c (t.delete n xs) = p.delete n.place (variable c n.text) (map (lowered_text c n.place) xs)
  statement c (t.delete_all n) = p.delete_all (variable c n.text)
  statement c (t.jump q which) = p.jump (jump_of q which)
  statement c (t.exit q x) = p.exit q (option_map (lowered c) x)
  statement c (t.return q x) = p.return (option_map (lowered c) x)
  statement c (t.block xs) = p.block (statements c xs)
  statement c (t.if_then x y) = p.if_then (lowered c x) (statement c y)
  statement c (t.if_else x y z) = p.if_else (lowered c x) (statement c y) (statement c z)
  statement c (t.while_do x y) = p.while_do (lowered c x) (statement c y)
  statement c (t.do_while y x) = p.do_while (statement c y) (lowered c x)
  statement c (t.for_each q key array y) = p.for_each q (variable c key.text) (variable c array.text) (statement c y)
  statement c (t.for_loop x y z u) =
      p.for_loop (option_map (lowered c) x) (option_map (lowered c) y) (option_map (lowered c) z) (statement c u)

  pub statements : Scope → t.Statements → Statements
  statements c t.no_more = p.no_more
  statements c (t.then_also x xs) = p.then_also (statement c x) (statements c xs)
