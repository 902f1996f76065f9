use Rattle.std.proofs.Common.{take}
use Rattle.awk_resolve.specs.Clash.{IsFirst, OneOf, NameAt}
use Rattle.awk_resolve.proofs.kinds.at_names.Given as goal

abbrev pub invariant-loop-name : goal.invariant-loop-name
invariant-loop-name l = IsFirst (OneOf (NameAt l.sought.kinds.now l.role) (take l.name-index l.names)) l.first
