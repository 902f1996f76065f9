use Rattle.std.proofs.Common.{◌≡◌, List, ℕ, IfOk, subst, sym, ◌∙◌}
use Rattle.awk_numbers.proofs.Closest.{zero_finite}
use Rattle.awk_numbers.proofs.Styles.{no_general}
use Rattle.awk_numbers.proofs.general.size_text.Goals as goal

pub unsigned-requires-else-is_finite-clause-finite : goal.unsigned-requires-else-is_finite-clause-finite
unsigned-requires-else-is_finite-clause-finite c = zero_finite

pub returns-else-is_finite : goal.returns-else-is_finite
returns-else-is_finite c =
    subst (λ (t : List ℕ). IfOk c.unsigned-else-is_finite.result (λ made. made.items ≡ t))
    (no_general c.args.letter c.args.x c.args.count (sym c.is_finite.ensures.value ∙ c.if-is_finite.false))
    c.unsigned-else-is_finite.ensures
