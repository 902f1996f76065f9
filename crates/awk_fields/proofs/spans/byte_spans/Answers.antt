use Rattle.std.proofs.Common.{◌≡◌, length, ap, subst, ◌∙◌, arith}
use Rattle.std.specs.List.{slice_split}
use Rattle.awk_fields.specs.Edges.{PartsTo}
use Rattle.awk_fields.specs.Fields.{separates}
use Rattle.awk_fields.specs.Marks.{is_mark}
use Rattle.awk_fields.proofs.PartSteps.{last_part}
use Rattle.awk_fields.proofs.spans.byte_spans.Goals as goal

pub returns : goal.returns
returns c =
    let s = c.args.text.now in
    let marks = c.separators-marks.result in
    let start = c.loop-at.start in
    let spans = c.loop-at.spans.items in
    let whole : c.loop-at.at ≡ length s = omega (arith, c.loop-at.invariant.inside) in
    let last = last_part marks s start spans c.push.new.self.items
    (subst (λ n. PartsTo marks s n start spans) whole c.loop-at.invariant) c.in_ok-push.ensures.items in
    let same : is_mark marks ≡ separates c.args.mark c.args.newline = λ i b. c.separators-marks.ensures b i in
    (last.0, last.1 ∙ ap (λ p. slice_split p s) same, last.2)
