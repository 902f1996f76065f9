-- The field of a whole number, by its digits.
use Rattle.std.proofs.Common.{◌≡◌, ℕ, ◌-◌, ◌++◌, Bool, ℤ, pos, List, length, replicate, ap, ◌∙◌}
use Rattle.std.specs.Prelude.{int_lt, unsigned_abs}
use Rattle.awk_numbers.specs.Decimal.{padded}
use Rattle.awk_numbers.proofs.Significant.{as_padded}
use Rattle.awk_numbers.proofs.Sizes.{text}
use Rattle.awk_format.specs.declared.directive.Directive.{Directive}
use Rattle.awk_format.specs.Fields.{least_digits, number_field, sign_text, signed_field}

pub signed_is : (d : Directive) (z : ℤ) (n : ℕ) (minus : Bool) (own : List ℕ) → minus ≡ int_lt z (pos 0)
    → n ≡ unsigned_abs z → own ≡ text n
    → number_field d (sign_text d.flags minus) (replicate (least_digits d - length own) 48 ++ own) ≡ signed_field d z
signed_is d z n minus own m e o =
    (λ i. number_field d (sign_text d.flags (m i)) (as_padded (least_digits d) n own o i))
    ∙ ap (λ (k : ℕ). number_field d (sign_text d.flags (int_lt z (pos 0))) (padded (least_digits d) k)) e
