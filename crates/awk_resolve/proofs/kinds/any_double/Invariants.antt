use Rattle.std.proofs.Common.{take}
use Rattle.awk_resolve.specs.Clash.{AnyDouble}
use Rattle.awk_resolve.proofs.kinds.any_double.Given as goal

abbrev pub invariant-loop-part : goal.invariant-loop-part
invariant-loop-part l = AnyDouble l.kinds (take l.part-index l.parts) → ⊥
