use Rattle.std.proofs.Common.{◌≡◌, ◌≤◌, ◌+◌, ◌-◌, ◌*◌, length, map, take}
use Rattle.std.specs.Prelude.{vec_len, vec_capacity}
use Rattle.std.specs.List.{sum_by}
use Rattle.awk_fields.specs.Edits.{part_bytes}
use Rattle.awk_fields.specs.declared.part.Part.TheVariants.{Cut}
use Rattle.awk_fields.proofs.edits.cut.Given as goal

abbrev pub invariant-loop-span : goal.invariant-loop-span
invariant-loop-span l = record {
  parts : l.parts.items ≡ map Cut (take l.span-index l.spans);
  bytes : l.bytes ≡ sum_by (part_bytes l.text) l.parts.items;
  small : l.bytes ≤ l.span-index * 18446744073709551615;
  room : vec_len l.parts + (length l.spans - l.span-index) ≤ vec_capacity l.parts;
}
