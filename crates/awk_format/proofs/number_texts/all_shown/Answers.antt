use Rattle.std.proofs.Common.{◌∷◌, drop, sym, ap, ◌+◌, ◌∙◌, ⊎_elim, inl, inr, arith}
use Rattle.std.proofs.lemmas.List.{drop_more}
use Rattle.std.proofs.lemmas.Result.{err_from_is_err_and}
use Rattle.awk_format.proofs.NumberTexts.{shown_fault}
use Rattle.awk_format.proofs.number_texts.all_shown.Goals as goal

pub returns-in_err-shown-clause-err : goal.returns-in_err-shown-clause-err
returns-in_err-shown-clause-err c =
    let p = err_from_is_err_and c.from_residual-in_err-shown.result c.from_residual-in_err-shown.ensures.1 in
    let values = c.args.values.now in
    let i = c.loop-value.value-index in
    let value = c.value-item.result in
    let left = drop_more values i value (omega (arith, c.loop-value-test.true))
    ∙ ap (λ v. v ∷ drop (i + 1) values) (sym c.value-item.is) in
    rw (p.1, p.2) (⊎_elim inl
    (λ failed. inr (sym c.loop-value.invariant ∙ shown_fault c.args.by.now c.loop-value.made.items value
    (drop i values) (drop (i + 1) values) _ left failed)) c.in_err-shown.ensures.err)
