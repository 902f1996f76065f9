use Rattle.std.proofs.Common.{◌⊎◌, ◌<◌, ℕ, slice_index}
use Rattle.awk_ere.specs.Table.{IsIn, Stops}
use Rattle.awk_ere.proofs.heads.second_range.Given as goal

abbrev pub invariant-loop-byte : goal.invariant-loop-byte
invariant-loop-byte l = record {
  all' : (b c : ℕ) → b < l.byte → c < 256 → Stops l.cells l.accepts (slice_index l.row b) c ⊎ IsIn l.range c;
  before' : (c : ℕ) → c < 256 → Stops l.cells l.accepts l.before c ⊎ IsIn l.range c;
}
