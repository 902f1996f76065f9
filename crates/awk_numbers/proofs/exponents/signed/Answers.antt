use Rattle.std.proofs.Common.{◌≡◌, List, ℕ, [], ◌∷◌, ◌++◌, ap, ◌∙◌}
use Rattle.awk_numbers.specs.Decimal.{padded}
use Rattle.awk_numbers.proofs.Significant.{as_padded}
use Rattle.awk_numbers.proofs.exponents.signed.Goals as goal

pub returns : goal.returns
returns c =
    let zeros : c.deref-2.result.now ≡ padded 2 c.args.size =
    c.deref-2.ensures.value ∙ c.in_ok-shown.ensures ∙ as_padded 2 c.args.size c.deref.result.now
    (c.deref.ensures.value ∙ c.in_ok-own.ensures) in
    let head : c.push-2.new.self.items ≡ c.args.letter ∷ (c.args.sign ∷ []) =
    c.in_ok-push-2.ensures.items ∙ ap (λ (t : List ℕ). t ++ (c.args.sign ∷ [])) (c.in_ok-push.ensures.items
    ∙ ap (λ (t : List ℕ). t ++ (c.args.letter ∷ [])) c.new-made.ensures.items) in
    c.in_ok-extend_from_slice.ensures.items ∙ (λ i. head i ++ zeros i)
