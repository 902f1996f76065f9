use Rattle.std.proofs.Common.{◌-◌, length}
use Rattle.awk_fields.specs.Edges.{PartsTo}
use Rattle.awk_fields.proofs.spans.byte_spans.Given as goal

abbrev pub invariant-loop-at : goal.invariant-loop-at
invariant-loop-at l = PartsTo l.marks l.text l.at l.start l.spans.items

abbrev pub decreases-loop-at : goal.decreases-loop-at
decreases-loop-at l = length l.text - l.at
