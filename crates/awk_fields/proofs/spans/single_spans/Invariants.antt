use Rattle.std.proofs.Common.{◌∷◌, [], map, take}
use Rattle.awk_fields.specs.Spans.{AreSpans}
use Rattle.awk_fields.proofs.spans.single_spans.Given as goal

abbrev pub invariant-loop-start : goal.invariant-loop-start
invariant-loop-start l = AreSpans l.text l.spans.items (map (λ b. b ∷ []) (take l.start l.text))
