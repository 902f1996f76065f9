use Rattle.std.specs.Prelude.{vec_len, vec_capacity}
use Rattle.awk_fields.specs.Edges.{IsBetween}
use Rattle.awk_fields.proofs.words.words_between.Given as goal

abbrev pub invariant-loop-edges : goal.invariant-loop-edges
invariant-loop-edges l = IsBetween l.text l.from l.edges l.spans.items (vec_len l.spans) (vec_capacity l.spans)

abbrev pub decreases-loop-edges : goal.decreases-loop-edges
decreases-loop-edges l = l.edges
