-- Statements to which an `else` could still be added.
use Rattle.std.specs.Prelude.{Bool, true, false}
use Rattle.awk_tree.specs.Tree as t
use Rattle.awk_tree.specs.Tree.{Statement}

-- whether an `if` without an `else` ends the statement
abbrev pub is_open : Statement → Bool
is_open (t.if_then x s) = true
is_open (t.if_else x s u) = is_open u
is_open (t.while_do x s) = is_open s
is_open (t.for_each p key array s) = is_open s
is_open (t.for_loop x y z s) = is_open s
is_open other = false
