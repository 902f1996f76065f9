use Rattle.std.proofs.Common.{◌∙◌}
use Rattle.std.proofs.lemmas.Bool.Decides.{Decides-eqb}
use Rattle.std.proofs.lemmas.List.{get_or_default}
use Rattle.std.proofs.lemmas.List.Elements.{contains_decides}
use Rattle.awk_ere.proofs.closure.has_done.Goals as goal

pub returns : goal.returns
returns c =
    let d = contains_decides _ Decides-eqb _ _ _ c.contains.ensures.cases in (
      (λ t. let y = d.0 t in (y.0, y.1, y.2 0)),
      (λ h. d.1 (h.0, h.1, λ e. get_or_default c.args.list.now h.0 e 0 h.1 ∙ h.2)),
    )
