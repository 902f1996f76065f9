use Rattle.std.proofs.Common.{◌≡◌, ◌+◌, ap, arith, ◌∙◌}
use Rattle.awk_numbers.specs.Decimal.{padded, pointed}
use Rattle.awk_numbers.specs.Exponents.{exponent_text, mantissa}
use Rattle.awk_numbers.proofs.Closest.{long_enough}
use Rattle.awk_numbers.proofs.Significant.{as_padded, as_exponential}
use Rattle.awk_numbers.proofs.exponents.unsigned.Goals as goal

pub pointed-requires : goal.pointed-requires
pointed-requires c =
    omega (
      arith,
      long_enough c.deref-2.result.now c.deref.result.now (c.args.places + 1) (c.deref-2.ensures.value
          ∙ c.in_ok-all.ensures),
    )

pub returns : goal.returns
returns c =
    let p = c.args.places in
    let x = c.args.x in
    let digits : c.deref-2.result.now ≡ padded (p + 1) (mantissa x (p + 1)) =
    c.deref-2.ensures.value ∙ c.in_ok-all.ensures ∙ as_padded (p + 1) (mantissa x (p + 1)) c.deref.result.now
    (c.deref.ensures.value ∙ c.in_ok-own.ensures.digits) in
    c.in_ok-extend_from_slice.ensures.items ∙ as_exponential c.args.letter x p c.in_ok-text.text.items
    c.deref-3.result.now (c.in_ok-text.ensures ∙ ap (pointed p) digits) (c.deref-3.ensures.value ∙ c.in_ok-tail.ensures
    ∙ ap (exponent_text c.args.letter) c.in_ok-own.ensures.place)
