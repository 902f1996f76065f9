use Rattle.std.proofs.Common.{◌++◌, List, ℕ, refl, ap, sym, ◌∙◌}
use Rattle.awk_numbers.specs.Decimal.{pointed}
use Rattle.awk_numbers.specs.Exponents.{exponent_text}
use Rattle.awk_numbers.specs.General.{shortened}
use Rattle.awk_numbers.proofs.SixDigits.{as_plain_text, plain_from}
use Rattle.awk_numbers.proofs.Sizes.{text}
use Rattle.awk_numbers.proofs.Significant.{as_padded}
use Rattle.awk_numbers.proofs.Styles.{as_scientific}
use Rattle.awk_numbers.proofs.short.write_size.Goals as goal

pub returns-then-is_plain-clause-value : goal.returns-then-is_plain-clause-value
returns-then-is_plain-clause-value c =
    let made = c.six_figures-number.ensures in
    let plain = sym c.is_plain.ensures ∙ c.if-is_plain.true in
    let within = plain_from c.six_figures-number.result.1 plain in
    c.write_digits.ensures.value ∙ as_plain_text c.args.x c.six_figures-number.result.0 c.six_figures-number.result.1
    made.1 plain (made.4 within.0 within.1)

pub returns-else-is_plain-clause-value : goal.returns-else-is_plain-clause-value
returns-else-is_plain-clause-value c =
    let made = c.six_figures-number.ensures in
    let k = c.six_figures-number.result.1 in
    let own = text c.six_figures-number.result.0 in
    c.push_exponent.ensures.value
    ∙ ap (λ (xs : List ℕ). xs ++ exponent_text 101 k) (c.write_digits-else-is_plain.ensures.value
    ∙ ap (λ (xs : List ℕ). shortened 5 (pointed 5 xs)) (sym (as_padded 6 c.six_figures-number.result.0 own refl)))
    ∙ as_scientific 101 c.args.x 6 k own made.1 (sym c.is_plain.ensures ∙ c.if-is_plain.false)
    (ap text made.0)
