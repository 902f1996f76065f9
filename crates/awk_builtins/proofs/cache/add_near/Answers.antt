use Rattle.std.proofs.Common.{All, sym, subst, ◌∙◌}
use Rattle.std.proofs.lemmas.List.Elements.{All-push}
use Rattle.awk_fields.specs.Separators.{IsEre}
use Rattle.awk_builtins.specs.Cached.{IsNear}
use Rattle.awk_builtins.proofs.cache.add_near.Goals as goal

pub returns : goal.returns
returns c =
    let source_is = c.in_ok-source.ensures.items in
    subst (All IsNear) (sym c.in_ok-push.ensures.items)
    (All-push IsNear _ _ c.requires.near (
      c.in_ok-ere.ensures.cases ∙ c.requires.same ∙ sym source_is,
      subst IsEre (sym source_is) c.requires.ere,
    ))
