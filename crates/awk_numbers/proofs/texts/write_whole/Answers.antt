use Rattle.std.proofs.Common.{◌≡◌, ◌∷◌, Bool, List, ℕ, ap, sym, ◌∙◌}
use Rattle.std.specs.Bool.{if◌then◌else◌}
use Rattle.arrayvec.specs.ArrayVec.{ArrayVec}
use Rattle.awk_numbers.specs.Decimal.{fixed}
use Rattle.awk_numbers.proofs.Closest.{no_fixed, zero_finite}
use Rattle.awk_numbers.proofs.WholeTexts.{signed}
use Rattle.awk_numbers.proofs.texts.write_whole.Goals as goal
use Rattle.awk_numbers.proofs.texts.write_whole.Goals.{then-is_finite, else-is_finite}

pub write_size-requires-else-is_finite : goal.write_size-requires-else-is_finite
write_size-requires-else-is_finite c = zero_finite

pub returns-then-is_negative-clause-value : goal.returns-then-is_negative-clause-value
returns-then-is_negative-clause-value c =
    let out = c.if-is_finite.out.items in
    let size : out ≡ fixed c.args.x 0 = elim c.if-is_finite.branch [
      | then-is_finite w ↦ ap (λ (v : ArrayVec ℕ). v.items) w.out-is ∙ w.write_size.ensures.value
      | else-is_finite w ↦ ap (λ (v : ArrayVec ℕ). v.items) w.out-is ∙ w.write_size-else-is_finite.ensures.value
          ∙ no_fixed c.args.x 0 (sym c.is_finite.ensures.value ∙ w.if-is_finite.false)
    ] in
    signed c.args.x _ out _ c.is_negative.ensures size
    (c.insert.ensures.items ∙ sym (ap (λ (b : Bool). if b then 45 ∷ out else out) c.if-is_negative.true))

pub returns-else-is_negative-clause-value : goal.returns-else-is_negative-clause-value
returns-else-is_negative-clause-value c =
    let out = c.if-is_finite.out.items in
    let size : out ≡ fixed c.args.x 0 = elim c.if-is_finite.branch [
      | then-is_finite w ↦ ap (λ (v : ArrayVec ℕ). v.items) w.out-is ∙ w.write_size.ensures.value
      | else-is_finite w ↦ ap (λ (v : ArrayVec ℕ). v.items) w.out-is ∙ w.write_size-else-is_finite.ensures.value
          ∙ no_fixed c.args.x 0 (sym c.is_finite.ensures.value ∙ w.if-is_finite.false)
    ] in
    signed c.args.x _ out _ c.is_negative.ensures size
    (sym (ap (λ (b : Bool). if b then 45 ∷ out else out) c.if-is_negative.false))
