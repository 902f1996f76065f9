use Rattle.std.proofs.Common.{◌+◌, ◌-◌, ◌*◌, ◌^◌, ℕ, List, length, refl, ap, sym, subst, arith, ◌∙◌}
use borrow.Author.Tests.{eqb-true, eqb-false}
use lib.Ieee.Nearest.{closest}
use Rattle.awk_numbers.specs.Figures.{AreFigures}
use Rattle.awk_numbers.proofs.Significant.{no_figures, no_units, some_figures, zero_digits, zero_place}
use Rattle.awk_numbers.proofs.SixDigits.{none_plain, six_from}
use Rattle.awk_numbers.proofs.short.far_six.Goals as goal

pub returns-then-is_empty : goal.returns-then-is_empty
returns-then-is_empty c =
    let size = c.exact-digits.ensures.value in
    let s = c.exact-digits.result.1 in
    let ds = c.exact-digits.result.0.items in
    let none = no_figures ds size.0 size.1 (eqb-true _ _ (sym c.is_empty.ensures ∙ c.if-is_empty.true)) in
    let units = no_units c.args.x ds size.0 s size.1 size.2 c.exact-digits.ensures.few none in (
      zero_digits c.args.x 6 units,
      zero_place c.args.x 6 units,
      omega arith,
      omega arith,
      λ g h. none_plain c.args.x size.0 s size.2 none,
    )

pub returns : goal.returns
returns c =
    let size = c.exact-digits.ensures.value in
    let n = size.0 in
    let s = c.exact-digits.result.1 in
    let ds = c.exact-digits.result.0.items in
    let some = some_figures ds n size.1 (eqb-false _ _ (sym c.is_empty.ensures ∙ c.if-is_empty.false)) in
    let are = subst (λ (xs : List ℕ). AreFigures xs n) (sym c.as_slice.ensures.value) size.1 in
    let is = c.first_six.ensures n are
    ∙ ap (λ (xs : List ℕ). closest (n * 10 ^ 6) (10 ^ length xs)) c.as_slice.ensures.value in
    six_from c.args.x ds n s _ size.1 size.2 c.exact-digits.ensures.few some is c.len.result
    (c.len.result + (1074 - s)) _ _ c.len.ensures.value refl (omega (arith, c.len.ensures.fits))
    c.carried.ensures.raised c.carried.ensures.kept
