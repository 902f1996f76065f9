use Rattle.std.proofs.Common.{◌≢◌, ◌<◌, ℕ, slice_index}
use Rattle.awk_ere.specs.Table.{IsIn}
use Rattle.awk_ere.proofs.heads.with_row.Given as goal

abbrev pub invariant-loop-byte : goal.invariant-loop-byte
invariant-loop-byte l = record {
  kept : (b : ℕ) → IsIn l.fn.range b → IsIn l.all b;
  all' : (b : ℕ) → b < l.byte → slice_index l.row b ≢ 0 → IsIn l.all b;
}
