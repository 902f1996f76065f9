use Rattle.std.proofs.Common.{◌≡◌, take}
use Rattle.std.specs.List.{sum_by}
use Rattle.awk_fields.specs.Edits.{part_bytes}
use Rattle.awk_fields.proofs.edits.total_len.Given as goal

abbrev pub invariant-loop-part : goal.invariant-loop-part
invariant-loop-part l = l.bytes ≡ sum_by (part_bytes l.text) (take l.part-index l.parts)
