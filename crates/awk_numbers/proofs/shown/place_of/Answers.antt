use Rattle.std.proofs.Common.{◌≡◌, ℕ, IfOk, subst, sym, ◌∙◌}
use lib.Ieee.{of_bits}
use Rattle.std.specs.Float.{binary64}
use Rattle.awk_numbers.proofs.Closest.{zero_finite}
use Rattle.awk_numbers.proofs.Significant.{by_place, no_units_of}
use Rattle.awk_numbers.proofs.shown.place_of.Goals as goal

pub finite_place-requires-else-is_finite-clause-finite : goal.finite_place-requires-else-is_finite-clause-finite
finite_place-requires-else-is_finite-clause-finite c = zero_finite

pub returns-else-is_finite : goal.returns-else-is_finite
returns-else-is_finite c =
    subst (λ (n : ℕ). IfOk c.finite_place-else-is_finite.result (λ made. made ≡ n))
    (by_place (of_bits binary64 0) c.args.x c.args.count (no_units_of c.args.x (sym c.is_finite.ensures.value
    ∙ c.if-is_finite.false))) c.finite_place-else-is_finite.ensures
