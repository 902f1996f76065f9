use Rattle.std.proofs.Common.{◌≡◌, map, take}
use Rattle.std.specs.Simd.Lanes.{mask_l}
use Rattle.awk_fields.specs.Marks.{is_mark}
use Rattle.awk_fields.proofs.marks.Marks.in_few.Given as goal

abbrev pub invariant-loop-i : goal.invariant-loop-i
invariant-loop-i l = l.found ≡ mask_l (map (is_mark l.self) (take l.i l.bytes))
