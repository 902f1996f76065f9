use Rattle.std.proofs.Common.{◌∙◌, sym}
use Rattle.std.proofs.lemmas.Float.{T_from_false}
use Rattle.awk_numbers.proofs.Settling.{settles_large, settles_nothing}
use Rattle.awk_numbers.proofs.number.settle.Goals as goal

pub returns-then-is_finite : goal.returns-then-is_finite
returns-then-is_finite c = settles_large c.args.x (T_from_false _ (sym c.is_small.ensures ∙ c.if-is_small.false))
    (sym c.is_finite.ensures.value ∙ c.if-is_finite.true)

pub returns-else-is_finite : goal.returns-else-is_finite
returns-else-is_finite c = settles_nothing c.args.x (sym c.is_finite.ensures.value ∙ c.if-is_finite.false)
