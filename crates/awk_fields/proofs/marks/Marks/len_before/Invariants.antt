use Rattle.std.proofs.Common.{◌≡◌, ◌+◌, ◌-◌, ◌≤◌, length, drop}
use Rattle.std.specs.List.{position_or_len}
use Rattle.awk_fields.specs.Marks.{is_mark}
use Rattle.awk_fields.proofs.marks.Marks.len_before.Given as goal

abbrev pub invariant-loop-passed : goal.invariant-loop-passed
invariant-loop-passed l = record {
  place : l.passed + position_or_len (is_mark l.self) (drop l.passed l.text) ≡ position_or_len (is_mark l.self) l.text;
  inside : l.passed ≤ length l.text;
}

abbrev pub decreases-loop-passed : goal.decreases-loop-passed
decreases-loop-passed l = length l.text - l.passed
