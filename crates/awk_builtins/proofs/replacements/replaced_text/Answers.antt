use Rattle.std.proofs.Common.{[], ◌∷◌, refl, sym, ap, ◌∙◌}
use Rattle.awk_builtins.specs.Searches.{substituted}
use Rattle.awk_builtins.proofs.Replaced.{is_substituted}
use Rattle.awk_builtins.proofs.replacements.replaced_text.Goals as goal

pub returns-in-Some-clause-ok : goal.returns-in-Some-clause-ok
returns-in-Some-clause-ok c =
    let ok = rw c.in-Some.is at c.in_ok-replaced.ensures.ok in
    let fits = rw c.in-Some.is at c.in_ok-replaced.ensures.fits in
    let ms = ok.0 ∷ ok.1 in (
      ms,
      ok.2.found,
      sym (ap (λ with. substituted with c.args.old.now ms) c.text_in-with.ensures)
          ∙ is_substituted c.args.ere.now c.text_in-with.result.now c.args.old.now c.args.all ok.0 ok.1
          c.in-Some.replaced.0 c.in-Some.replaced.1 ok.2 fits,
    )

pub returns-in-None-clause-ok : goal.returns-in-None-clause-ok
returns-in-None-clause-ok c =
    ([], rw c.in-None.is at c.in_ok-replaced.ensures.ok, refl)
