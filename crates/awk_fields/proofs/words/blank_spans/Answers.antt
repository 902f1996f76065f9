use Rattle.std.proofs.Common.{◌≡◌, length, ap, sym, subst, ◌∙◌, arith}
use Rattle.awk_fields.specs.Edges.{WordsTo}
use Rattle.awk_fields.proofs.WordSteps.{last_word, no_last_word}
use Rattle.awk_fields.proofs.words.blank_spans.Goals as goal
use Rattle.awk_fields.proofs.words.blank_spans.Goals.{then-start-end+in_ok-push, else-start-end}

pub returns : goal.returns
returns c =
    let s = c.args.text.now in
    let start = c.loop-at.start in
    let spans = c.loop-at.spans.items in
    let whole : c.loop-at.at ≡ length s = omega (arith, c.loop-at.invariant.inside) in
    let words_to : WordsTo s (length s) start spans = subst (λ n. WordsTo s n start spans) whole c.loop-at.invariant in
    elim c.if-start-end.branch [
      | then-start-end+in_ok-push w ↦ last_word s start spans c.if-start-end.spans.items words_to w.if-start-end.true
          (ap (λ v. v.items) w.spans-is ∙ w.in_ok-push.ensures.items)
      | else-start-end w ↦ no_last_word s start c.if-start-end.spans.items
          (subst (λ v. WordsTo s (length s) start v.items) (sym w.spans-is) words_to) w.if-start-end.false
    ]
