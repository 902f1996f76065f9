use Rattle.std.proofs.Common.{◌≡◌, ◌+◌, ◌-◌, length}
use Rattle.awk_fields.specs.Seeking.{IsAhead}
use Rattle.awk_fields.proofs.Seeks.{Reaches}
use Rattle.awk_fields.proofs.spans.next_separator.Given as goal

abbrev pub invariant-loop-at : goal.invariant-loop-at
invariant-loop-at l = record {
  ahead : IsAhead l.fn.searches.0 l.text l.at l.ahead;
  reaches : Reaches l.fn.searches.0 l.newline l.text l.fn.from l.at;
  same : l.searches ≡ l.fn.searches;
}

abbrev pub decreases-loop-at : goal.decreases-loop-at
decreases-loop-at l = length l.text + 1 - l.at
