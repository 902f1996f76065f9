use Rattle.std.proofs.Common.{◌≡◌, ◌+◌, ◌-◌, ◌∷◌, ◌++◌, [], not, cond, length, replicate, ap, ◌∙◌, append_assoc, arith}
use Rattle.std.proofs.Common.{inl, inr}
use Rattle.std.proofs.lemmas.Bool.{cases_lt}
use Rattle.std.proofs.lemmas.List.{replicate_more}
use Rattle.awk_text.specs.declared.value.Value.TheVariants.{Unset}
use Rattle.awk_fields.specs.declared.part.Part.TheVariants.{Own}
use Rattle.awk_fields.proofs.edits.pad.Goals as goal

pub loop-place-preserved : goal.loop-place-preserved
loop-place-preserved c =
    let old = c.args.parts.now.items in
    let place = c.loop-place.place in
    let len = c.len-len.result in
    let pushed : c.push.new.self.items ≡ c.loop-place.parts.items ++ Own Unset ∷ [] =
    c.push.ensures.items ∙ ap (λ ok. cond ok (c.loop-place.parts.items ++ Own Unset ∷ []) c.loop-place.parts.items)
    (c.is_err.ensures.negation ∙ ap not c.if-is_err.false) in
    let one : place - len + 1 ≡ place + 1 - len = omega arith in
    record {
      items = pushed ∙ (ap (λ vs. vs ++ Own Unset ∷ []) c.loop-place.invariant.items
          ∙ (append_assoc old (replicate (place - len) (Own Unset)) (Own Unset ∷ []) ∙ ap (λ r. old ++ r)
          (replicate_more (place - len) (Own Unset) ∙ ap (λ n. replicate n (Own Unset)) one)));
      stays = λ le. absurd (omega arith);
    }

pub returns-clause-ok : goal.returns-clause-ok
returns-clause-ok c =
    let old = c.args.parts.now.items in
    let place = c.loop-place.place in
    let len = c.len-len.result in
    let len_is : len ≡ length old = omega (arith, c.len-len.ensures, c.args.parts.now.ok) in
    let same : place - len ≡ c.args.count - length old =
    elim (cases_lt len c.args.count) [
      | inl lt ↦ omega (arith, len_is)
      | inr ge ↦ omega (
        arith,
        len_is,
        c.loop-place.invariant.stays ge,
      )
    ] in
    c.loop-place.invariant.items ∙ ap (λ n. old ++ replicate n (Own Unset)) same
