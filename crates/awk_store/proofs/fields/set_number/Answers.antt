use Rattle.std.proofs.Common.{arith, sym, subst, w64, ◌∙◌}
use Rattle.std.proofs.lemmas.Int.{to_z_pos}
use Rattle.std.proofs.lemmas.Result.{err_from_is_err_and}
use Rattle.std.specs.Prelude.{IfOk, Ok, ◌≡◌}
use Rattle.awk_text.specs.declared.value.Value.TheVariants as v
use Rattle.awk_format.specs.NumberTexts.{standing}
use Rattle.awk_store.proofs.RecordSteps.{no_text, number_result}
use Rattle.awk_store.proofs.VariableSteps.{ok_at}
use Rattle.awk_store.specs.Kept.{by_convfmt}
use Rattle.awk_store.proofs.fields.set_number.Goals as goal

pub returns-in_err-text : goal.returns-in_err-text
returns-in_err-text c = λ g t.
    let e = err_from_is_err_and c.from_residual.result c.from_residual.ensures.1 in
    rw (e.1, e.2) (no_text g (c.args.store.now, t) c.args.place c.args.number (v.Real c.args.value)
    c.shown_number.result c.shown_number.ensures.err _ (sym c.at.ensures ∙ c.in_err-text.was))

pub returns-in-Some : goal.returns-in-Some
returns-in-Some c = λ g t.
    let told : by_convfmt c.args.store.now (v.Real c.args.value) ≡ Ok (standing c.args.value c.in_ok-text.field-0) =
    subst (λ r. IfOk r (λ made. by_convfmt c.args.store.now (v.Real c.args.value) ≡ Ok (standing c.args.value made)))
    (ok_at c.args.place c.shown_number.result c.in_ok-text.field-0 (sym c.at.ensures ∙ c.in_ok-text.was))
    c.shown_number.ensures.ok in
    rw c.at-in-Some.ensures (number_result g (c.args.store.now, t) c.args.place (v.Real c.args.value)
    (v.Text c.in-Some.text) (rw c.in-Some.is at told) c.args.number (omega (arith, c.ranges.number.fits)) c.requires
    c.set_shown.result c.set_shown.new.self
    (rw (c.from.ensures, to_z_pos w64 c.args.number (omega (arith, c.ranges.number.fits))) at c.set_shown.ensures.ok)
    c.set_shown.ensures.err c.set_shown.ensures.others
    (rw (c.from.ensures, to_z_pos w64 c.args.number (omega (arith, c.ranges.number.fits))) at
    c.set_shown.ensures.fault))

pub returns-in-None : goal.returns-in-None
returns-in-None c = λ g t.
    let told : by_convfmt c.args.store.now (v.Real c.args.value) ≡ Ok (standing c.args.value c.in_ok-text.field-0) =
    subst (λ r. IfOk r (λ made. by_convfmt c.args.store.now (v.Real c.args.value) ≡ Ok (standing c.args.value made)))
    (ok_at c.args.place c.shown_number.result c.in_ok-text.field-0 (sym c.at.ensures ∙ c.in_ok-text.was))
    c.shown_number.ensures.ok in
    rw c.at-in-None.ensures (number_result g (c.args.store.now, t) c.args.place (v.Real c.args.value)
    (v.Real c.args.value) (rw c.in-None.is at told) c.args.number (omega (arith, c.ranges.number.fits)) c.requires
    c.set_field.result c.set_field.new.self
    (rw (c.from-in-None.ensures, to_z_pos w64 c.args.number (omega (arith, c.ranges.number.fits))) at
    c.set_field.ensures.ok)
    c.set_field.ensures.err c.set_field.ensures.others
    (rw (c.from-in-None.ensures, to_z_pos w64 c.args.number (omega (arith, c.ranges.number.fits))) at
    c.set_field.ensures.fault))
