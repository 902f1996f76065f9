use Rattle.std.proofs.Common.{take}
use Rattle.awk_resolve.specs.Clash.{IsFirst, OneOf, PartAt}
use Rattle.awk_resolve.proofs.kinds.first_clash.Given as goal

abbrev pub invariant-loop-part : goal.invariant-loop-part
invariant-loop-part l = IsFirst (OneOf (PartAt l.kinds) (take l.part-index l.parts)) l.first
