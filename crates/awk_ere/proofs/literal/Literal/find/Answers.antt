use Rattle.std.proofs.Common.{◌+◌, length, refl, ap, ◌∙◌}
use Rattle.awk_ere.proofs.Literals.{text_none, text_some}
use Rattle.awk_ere.proofs.literal.Literal.find.Goals as goal

pub returns-in-None : goal.returns-in-None
returns-in-None c = text_none _ _ _ c.requires (rw c.split_at.ensures.back at c.in-None.ensures)

pub returns-in-Some : goal.returns-in-Some
returns-in-Some c =
    text_some _ _ _ c.requires c.in-Some.at _ _ refl (ap (λ x. (c.args.from + c.in-Some.at) + length x)
    (c.as_slice.ensures.value ∙ c.self.view_is))
    (rw c.split_at.ensures.back at c.in-Some.ensures)
