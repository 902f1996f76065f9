use Rattle.std.proofs.Common.{sym, ◌∙◌, arith}
use Rattle.awk_lib.proofs.Digits.{digits_next, value_next, value_small, not_digits}
use Rattle.awk_lib.proofs.slot.number_of.Goals as goal

pub overflow_mul-number : goal.overflow_mul-number
overflow_mul-number c =
    omega (
      arith,
      value_small c.args.digits.now c.loop-digit.digit-index c.loop-digit.number c.requires
          c.loop-digit.invariant.digits c.loop-digit.invariant.value,
    )

pub overflow_add-number : goal.overflow_add-number
overflow_add-number c =
    omega (
      arith,
      value_small c.args.digits.now c.loop-digit.digit-index c.loop-digit.number c.requires
          c.loop-digit.invariant.digits c.loop-digit.invariant.value,
    )

pub loop-digit-preserved : goal.loop-digit-preserved
loop-digit-preserved c =
    let ds = c.args.digits.now in
    let i = c.loop-digit.digit-index in
    let digit = sym c.is_ascii_digit.ensures.value ∙ c.if-not-is_ascii_digit.false in
    record {
      digits = digits_next ds i c.loop-digit-test.true digit c.loop-digit.invariant.digits;
      value = value_next ds i c.loop-digit.number c.loop-digit-test.true digit c.loop-digit.invariant.value;
    }

pub returns-then-not-is_ascii_digit-clause-none : goal.returns-then-not-is_ascii_digit-clause-none
returns-then-not-is_ascii_digit-clause-none c =
    λ e. not_digits c.args.digits.now c.loop-digit.digit-index c.loop-digit-test.true
    (sym c.is_ascii_digit.ensures.value ∙ c.if-not-is_ascii_digit.true)
