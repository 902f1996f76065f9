use Rattle.std.proofs.Common.{◌≡◌, ℕ, IfOk, subst}
use Rattle.awk_numbers.proofs.Sizes.{text}
use Rattle.awk_numbers.proofs.fixed.digits_at.Goals as goal

pub returns-in-Some : goal.returns-in-Some
returns-in-Some c =
    subst (λ (n : ℕ). IfOk c.near_digits.result (λ made. made.items ≡ text n)) c.in-Some.ensures.some
    c.near_digits.ensures
