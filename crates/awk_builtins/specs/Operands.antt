-- The expressions that the forms of one operand and of two stand for.
use Rattle.awk_program.specs.Program as p
use Rattle.awk_program.specs.Program.{Expression}
use Rattle.awk_builtins.specs.declared.operands.Unary.{Unary}
use Rattle.awk_builtins.specs.declared.operands.Unary.TheVariants as one
use Rattle.awk_builtins.specs.declared.operands.Binary.{Binary}
use Rattle.awk_builtins.specs.declared.operands.Binary.TheVariants as two

abbrev pub unary_of : Unary → Expression → Expression
unary_of one.Not x = p.not x
unary_of (one.Signed place how) x = p.signed place how x
unary_of (one.AsText place) x = p.as_text place x
unary_of (one.Builtin place which) x = p.builtin place which (p.more x p.none)

abbrev pub binary_of : Binary → Expression → Expression → Expression
binary_of (two.Compare place how) x y = p.compare place how x y
binary_of (two.Builtin place which) x y = p.builtin place which (p.more x (p.more y p.none))
