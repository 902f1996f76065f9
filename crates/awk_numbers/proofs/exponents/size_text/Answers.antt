use Rattle.std.proofs.Common.{◌≡◌, List, ℕ, IfOk, subst, sym, ◌∙◌}
use Rattle.awk_numbers.proofs.Closest.{zero_finite}
use Rattle.awk_numbers.proofs.Significant.{no_exponential}
use Rattle.awk_numbers.proofs.exponents.size_text.Goals as goal

pub unsigned-requires-else-is_finite : goal.unsigned-requires-else-is_finite
unsigned-requires-else-is_finite c = zero_finite

pub returns-else-is_finite : goal.returns-else-is_finite
returns-else-is_finite c =
    subst (λ (t : List ℕ). IfOk c.unsigned-else-is_finite.result (λ made. made.items ≡ t))
    (no_exponential c.args.letter c.args.x c.args.places (sym c.is_finite.ensures.value ∙ c.if-is_finite.false))
    c.unsigned-else-is_finite.ensures
