use Rattle.std.proofs.Common.{◌≡◌, ◌+◌, ◌≤◌}
use Rattle.awk_ere.proofs.Sets.{IsAdding}
use Rattle.awk_ere.proofs.bracket.add.Given as goal

abbrev pub invariant-loop-byte : goal.invariant-loop-byte
invariant-loop-byte l = record {
  adding : IsAdding l.fn.range.0 l.byte l.fn.set l.set;
  still : l.fn.range.1 + 1 ≤ l.fn.range.0 → l.byte ≡ l.fn.range.0;
}
