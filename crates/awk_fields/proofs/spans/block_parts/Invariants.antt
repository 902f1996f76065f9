use Rattle.std.specs.Prelude.{vec_len, vec_capacity}
use Rattle.awk_fields.proofs.PartSteps.{IsAmong}
use Rattle.awk_fields.proofs.spans.block_parts.Given as goal

abbrev pub invariant-loop-found : goal.invariant-loop-found
invariant-loop-found l = IsAmong l.fn.marks l.text l.from l.found l.start l.spans.items (vec_len l.spans)
    (vec_capacity l.spans)

abbrev pub decreases-loop-found : goal.decreases-loop-found
decreases-loop-found l = l.found
