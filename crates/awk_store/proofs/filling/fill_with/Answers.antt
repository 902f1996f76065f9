use Rattle.std.proofs.Common.{⊎_elim, inl, inr, sym, ap, ◌∙◌}
use Rattle.std.specs.Prelude.{Err}
use Rattle.std.proofs.lemmas.Result.{err_from_is_err_and}
use Rattle.awk_store.proofs.Numbered.{fills, refused}
use Rattle.awk_store.proofs.filling.fill_with.Goals as goal

pub returns-clause-ok : goal.returns-clause-ok
returns-clause-ok c = fills c.args.parts.items c.fill.new.self c.in_ok-fill.ensures.fits c.in_ok-fill.ensures.ok

pub returns-in_err-fill-clause-err : goal.returns-in_err-fill-clause-err
returns-in_err-fill-clause-err c =
    let p = err_from_is_err_and c.from_residual.result c.from_residual.ensures.1 in
    rw (p.1, p.2) (⊎_elim inl (λ h. inr (refused c.args.parts.items h.1 ∙ ap (λ e. Err e) (sym h.0), h.2))
    c.in_err-fill.ensures.err)
