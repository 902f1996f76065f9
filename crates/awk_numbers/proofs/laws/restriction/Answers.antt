use Rattle.std.proofs.Common.{◌≡◌, ◌<◌, ℤ, Bool, true, false, Ok, Err, is_ok, unsigned_abs, int_rem, int_div, ap, sym}
use Rattle.std.proofs.Common.{subst, ◌∙◌, true≢false}
use Rattle.std.specs.Bool.{if◌then◌else◌}
use lib.Ieee.{of_int, binary64, div, rem}
use Rattle.awk_numbers.specs.declared.number.Number.TheVariants.{Whole}
use Rattle.awk_numbers.specs.declared.number.NumberFault.TheVariants.{ZeroDivisor}
use Rattle.awk_numbers.specs.Laws.{IsExact}
use Rattle.awk_numbers.specs.Numbers.{settled}
use Rattle.awk_numbers.specs.Operators.{is_int_zero, ranged}
use Rattle.awk_numbers.proofs.Exact.{add_exact, sub_exact, mul_exact, div_exact, rem_exact, neg_exact, ranged_is}
use Rattle.awk_numbers.proofs.Exact.{same_whole, not_zero}
use Rattle.awk_numbers.proofs.PowerLaws.{power_restricts}
use Rattle.awk_numbers.proofs.laws.restriction.Goals as goal

abbrev small : ℤ → Type 0
small z = IsExact z

pub returns-clause-sum : goal.returns-clause-sum
returns-clause-sum c m n z p q r e =
    let is = ranged_is _ z e in
    add_exact m n p q (subst small (sym is) r) ∙ ap (λ (k : ℤ). Ok (Whole k)) is

pub returns-clause-difference : goal.returns-clause-difference
returns-clause-difference c m n z p q r e =
    let is = ranged_is _ z e in
    sub_exact m n p q (subst small (sym is) r) ∙ ap (λ (k : ℤ). Ok (Whole k)) is

pub returns-clause-product : goal.returns-clause-product
returns-clause-product c m n z p q r e =
    let is = ranged_is _ z e in
    mul_exact m n p q (subst small (sym is) r) ∙ ap (λ (k : ℤ). Ok (Whole k)) is

pub returns-clause-quotient : goal.returns-clause-quotient
returns-clause-quotient c m n z p q r s = go (is_int_zero n) (not_zero n)
  where
    go : (b : Bool) → (b ≡ false → 0 < unsigned_abs n) → (if b then Err ZeroDivisor else ranged (int_div m n))
        ≡ Ok (Whole z)
        → (if b then Err ZeroDivisor else settled (div binary64 (of_int binary64 m) (of_int binary64 n))) ≡ Ok (Whole z)
    go true f e = absurd (true≢false (sym (ap is_ok e)))
    go false f e = div_exact m n p q (f Rattle.std.proofs.Common.refl) s ∙ ap (λ (k : ℤ). Ok (Whole k))
        (ranged_is _ z e)

pub returns-clause-remainder : goal.returns-clause-remainder
returns-clause-remainder c m n z p q r = go (is_int_zero n) (not_zero n)
  where
    go : (b : Bool) → (b ≡ false → 0 < unsigned_abs n) → (if b then Err ZeroDivisor else Ok (Whole (int_rem m n)))
        ≡ Ok (Whole z)
        → (if b then Err ZeroDivisor else settled (rem binary64 (of_int binary64 m) (of_int binary64 n))) ≡ Ok (Whole z)
    go true f e = absurd (true≢false (sym (ap is_ok e)))
    go false f e = rem_exact m n p q (f Rattle.std.proofs.Common.refl) ∙ ap (λ (k : ℤ). Ok (Whole k)) (same_whole _ z e)

pub returns-clause-negative : goal.returns-clause-negative
returns-clause-negative c n z p q e = neg_exact n p ∙ ap (λ (k : ℤ). Ok (Whole k)) (ranged_is _ z e)

pub returns-clause-power : goal.returns-clause-power
returns-clause-power c = power_restricts
