use Rattle.std.proofs.Common.{◌≡◌, ◌+◌, ◌-◌, length}
use Rattle.awk_lib.proofs.Matching.{Reaches}
use Rattle.awk_lib.proofs.replacing.next_match.Given as goal

abbrev pub invariant-loop-at : goal.invariant-loop-at
invariant-loop-at l = record {
  reaches : Reaches l.fn.searches.0 l.text l.fn.from l.last l.at;
  same : l.searches ≡ l.fn.searches;
}

abbrev pub decreases-loop-at : goal.decreases-loop-at
decreases-loop-at l = length l.text + 1 - l.at
