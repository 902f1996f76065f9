use Rattle.std.proofs.Common.{sym, subst, ◌∙◌}
use Rattle.std.proofs.lemmas.Result.{err_from_is_err_and}
use Rattle.std.specs.Prelude.{IfOk, Ok, ◌≡◌}
use Rattle.awk_store.proofs.RecordSteps.{no_text}
use Rattle.awk_store.proofs.VariableSteps.{ok_at}
use Rattle.awk_store.specs.Kept.{by_convfmt}
use Rattle.awk_store.proofs.fields.set_whole.Goals as goal

pub returns-in_err-shown : goal.returns-in_err-shown
returns-in_err-shown c = λ g t.
    let e = err_from_is_err_and c.from_residual.result c.from_residual.ensures.1 in
    rw (e.1, e.2) (no_text g (c.args.store.now, t) c.args.place 0 c.args.value c.as_text.result c.as_text.ensures.err _
    (sym c.at.ensures ∙ c.in_err-shown.was))

pub returns : goal.returns
returns c = λ g t.
    c.set_record.ensures g t c.args.value c.in_ok-shown.shown
    (subst (λ r. IfOk r (λ made. by_convfmt c.args.store.now c.args.value ≡ Ok made))
    (ok_at c.args.place c.as_text.result c.in_ok-shown.shown (sym c.at.ensures ∙ c.in_ok-shown.was))
    c.as_text.ensures.ok) (sym c.in-Ok.ensures)
