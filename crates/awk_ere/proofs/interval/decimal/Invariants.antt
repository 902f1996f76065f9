use Rattle.std.proofs.Common.{◌≡◌, ◌≤◌, min, fold, drop}
use Rattle.awk_ere.specs.Interval.{decimal}
use Rattle.awk_ere.proofs.Intervals.{more}
use Rattle.awk_ere.proofs.interval.decimal.Given as goal

abbrev pub invariant-loop-byte : goal.invariant-loop-byte
invariant-loop-byte l = record {
  small : l.value ≤ 256;
  rest : min 256 (fold more l.value (drop l.byte-index l.digits)) ≡ min 256 (decimal l.digits);
}
