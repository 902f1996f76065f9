use Rattle.std.proofs.Common.{◌≡◌, map, take}
use Rattle.awk_fields.specs.Spans.{part}
use Rattle.awk_fields.proofs.spans.texts.Given as goal

abbrev pub invariant-loop-span : goal.invariant-loop-span
invariant-loop-span l = l.found.items ≡ map (part l.text) (take l.span-index l.spans)
