use Rattle.std.proofs.Common.{refl, ap}
use Rattle.std.specs.Fmt.{decimal}
use Rattle.awk_machine.specs.Begins.{set_at_start}
use Rattle.awk_machine.specs.Pieces as machine
use Rattle.awk_machine.specs.Pieces.{nowhere}
use Rattle.awk_program.specs.Program.{global}
use Rattle.awk_program.specs.declared.variables.Own.TheVariants as own
use Rattle.awk_text.specs.declared.value.Value.TheVariants as v
use Rattle.std.proofs.lemmas.Result.{err_from_is_err_and}
use Rattle.awk_store.proofs.Acting.{lacking}
use Rattle.awk_run.proofs.Preparing.{where_sound}
use Rattle.awk_run.proofs.start.set_argument.Goals as goal

pub returns-in_err-copy : goal.returns-in_err-copy
returns-in_err-copy c = λ m t.
    let e = err_from_is_err_and c.from_residual.result c.from_residual.ensures.1 in
    rw (e.1, e.2) (lacking refl)

pub returns : goal.returns
returns c = λ m t. where_sound (λ sound. ap (λ x. set_at_start (machine.Element (global x) (decimal c.args.n) nowhere)
    (v.Input c.args.text.now)) (sound.own own.Argv))
    (rw (c.slot.ensures, c.new.ensures, c.in_ok-copy.ensures.items, c.as_bytes-key.ensures.value, c.format.ensures.text)
    at (c.set_element.ensures m t nowhere))
