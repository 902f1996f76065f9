use Rattle.std.proofs.Common.{ℕ, List, ap, sym, subst, arith, ◌∙◌}
use Rattle.awk_numbers.specs.Figures.{AreFigures}
use Rattle.awk_numbers.proofs.Room.{if_ok}
use Rattle.awk_numbers.proofs.Sizes.{cut_size, padded_size, text}
use Rattle.awk_numbers.proofs.fixed.far_digits.Goals as goal

pub returns-then-places-all_places : goal.returns-then-places-all_places
returns-then-places-all_places c = if_ok c.cut_text.result _ _ (λ made is. (
    let size = c.exact-digits.ensures.value in
    is size.0 size.1 ∙ ap text (sym (cut_size c.args.x size.0 c.exact-digits.result.1 c.args.places size.2
    (omega (arith, c.if-places-all_places.true)))))) c.cut_text.ensures

pub returns : goal.returns
returns c = if_ok c.raised_text.result _ _ (λ made is. (
    let size = c.exact-digits.ensures.value in
    is size.0 (subst (λ (xs : List ℕ). AreFigures xs size.0) (sym c.as_slice.ensures.value) size.1)
    ∙ ap text (sym (padded_size c.args.x size.0 c.exact-digits.result.1 c.args.places size.2
    c.if-places-all_places.false)))) c.raised_text.ensures
