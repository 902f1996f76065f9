use Rattle.std.proofs.Common.{take}
use Rattle.awk_resolve.specs.Clash.{IsFirst, OneOf, ArgumentAt}
use Rattle.awk_resolve.proofs.kinds.at_arguments.Given as goal

abbrev pub invariant-loop-arg : goal.invariant-loop-arg
invariant-loop-arg l = IsFirst (OneOf (ArgumentAt l.sought.kinds.now l.role) (take l.arg-index l.args)) l.first
