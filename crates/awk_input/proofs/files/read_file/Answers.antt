use Rattle.std.proofs.Common.{sym, ap, ◌∙◌, not}
use Rattle.std.specs.Prelude.{Some}
use Rattle.box_world.specs.Events.{OperandFile, Named}
use Rattle.awk_program.specs.declared.variables.Own.TheVariants as own
use Rattle.awk_machine.specs.Pieces.{Do, Take}
use Rattle.awk_machine.specs.State.{Main}
use Rattle.awk_store.specs.Inputs.{key_of}
use Rattle.awk_streams.proofs.Chain.{at_once, lacking}
use Rattle.awk_streams.proofs.Lives.{live_found, some_at}
use Rattle.awk_store.proofs.Lifting.{apart, apart-text, lifted_at}
use Rattle.awk_input.specs.Inputs.{found_main}
use Rattle.awk_input.proofs.FileSteps.{current_is, ok_any, read_as}
use Rattle.awk_input.proofs.MainSteps.{takes_so}
use Rattle.awk_input.proofs.files.read_file.Goals as goal

pub returns-in_default-clause-task : goal.returns-in_default-clause-task
returns-in_default-clause-task g c = λ m e. lacking (at_once _ (c.args.store.now, c.args.streams.now) c.args.world.now)

pub returns-then-is_none-clause-task : goal.returns-then-is_none-clause-task
returns-then-is_none-clause-task g c =
    λ m e. lacking (at_once _ (c.args.store.now, c.args.streams.now) c.args.world.now)

pub record-requires-clause-live : goal.record-requires-clause-live
record-requires-clause-live g c =
    let n = some_at c.number.result (c.is_none.ensures ∙ ap not c.if-is_none.false) in
    live_found OperandFile c.bytes.result.now n.0 c.args.streams.now (sym c.number.ensures ∙ n.1)

pub returns-clause-task : goal.returns-clause-task
returns-clause-task g c = λ m e.
    let k = c.args.store.now in
    let key = Named OperandFile c.bytes.result.now in
    let current = sym (ap (λ (x : Main). x.current) c.main.ensures) ∙ ap key_of c.in-Operand.is
    ∙ ap (λ t. Some (Named OperandFile t)) (sym c.bytes.ensures) in
    read_as (sym (current_is k key current)) (lifted_at m k (λ row cells sound.
    let s = apart m k row in
    c.record.ensures.task m s (Do Take) (found_main key) (takes_so m s key e current)
    (apart-text m k row cells sound own.Rs ∙ sym c.own_text-rs.ensures)))

pub returns-clause-current : goal.returns-clause-current
returns-clause-current g c =
    ok_any c.record.result (
      c.in-Operand.text,
      sym (ap (λ (x : Main). x.current) c.main.ensures)
          ∙ ap key_of c.in-Operand.is,
    )
