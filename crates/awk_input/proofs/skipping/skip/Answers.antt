use Rattle.std.proofs.Common.{refl, sym, ap, ◌∙◌}
use Rattle.box_world.specs.Events.{OperandFile}
use Rattle.awk_machine.specs.State.{Main}
use Rattle.awk_machine.specs.Statements.{skipping}
use Rattle.awk_store.proofs.Acting.{acted}
use Rattle.awk_store.specs.Inputs.{key_of}
use Rattle.awk_streams.proofs.Chain.{part, turned}
use Rattle.awk_input.proofs.FileSteps.{but_itself}
use Rattle.awk_input.proofs.MainSteps.{passes_standard}
use Rattle.awk_input.proofs.skipping.skip.Goals as goal

pub returns-in-Nothing-clause-task : goal.returns-in-Nothing-clause-task
returns-in-Nothing-clause-task g c = λ m rest q old w lead.
    let none = sym (ap (λ (x : Main). x.current) c.main.ensures) ∙ ap key_of c.in-Nothing.is in
    turned lead (λ k. ap (λ o. skipping o (rest k)) none)

pub returns-in-Standard-clause-task : goal.returns-in-Standard-clause-task
returns-in-Standard-clause-task g c = λ m rest q old w lead.
    let standard = sym (ap (λ (x : Main). x.current) c.main.ensures) ∙ ap key_of c.in-Standard.is in
    part tt (turned lead (λ k. ap (λ o. skipping o (rest k)) standard))
    (acted (passes_standard m (c.args.store.now, c.args.streams.now) c.pass_standard.new.store c.pass_standard.ensures))
    refl

pub returns-in-Operand-clause-task : goal.returns-in-Operand-clause-task
returns-in-Operand-clause-task g c = λ m rest q old w lead.
    let current = sym (ap (λ (x : Main). x.current) c.main.ensures) ∙ ap key_of c.in-Operand.is in
    c.pass_file.ensures.task m c.in-Operand.field-0 current c.args.streams.now
    (but_itself OperandFile c.in-Operand.field-0 c.args.streams.now) rest q old w
    (turned lead (λ k. ap (λ o. skipping o (rest k)) current))
