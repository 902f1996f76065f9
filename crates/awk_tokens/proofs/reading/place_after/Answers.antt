use Rattle.std.proofs.Common.{◌++◌, get_or, sym, ap, ◌∙◌, arith}
use Rattle.awk_tokens.specs.Places.{place_after, next_place}
use Rattle.awk_tokens.proofs.PlaceLemmas.{place_on, all_taken}
use Rattle.awk_tokens.proofs.reading.place_after.Goals as goal

pub loop-b-preserved : goal.loop-b-preserved
loop-b-preserved c =
    let text = c.args.text.now in
    let i = c.loop-b.b-index in
    λ front placed.
    c.next_place-end.ensures ∙ ap (λ p. next_place p (get_or text i 0)) (c.loop-b.invariant front placed)
    ∙ sym (place_on front text i (omega arith))

pub returns : goal.returns
returns c =
    λ front placed.
    c.loop-b.invariant front placed ∙ ap (λ w. place_after (front ++ w)) (all_taken c.args.text.now c.loop-b.b-index
    (omega arith))
