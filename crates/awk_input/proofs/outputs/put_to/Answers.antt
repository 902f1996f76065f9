use Rattle.std.proofs.Common.{refl}
use Rattle.std.proofs.lemmas.Result.{err_from_is_err_and}
use Rattle.awk_text.specs.Lents.{lent_value}
use Rattle.awk_text.specs.Values.{text_of}
use Rattle.box_world.specs.Events.{Named}
use Rattle.awk_machine.specs.Pieces as machine
use Rattle.awk_machine.specs.Pieces.{Do}
use Rattle.awk_machine.specs.Printing as printing
use Rattle.awk_streams.proofs.Chain.{part, stop}
use Rattle.awk_store.proofs.Lifting.{lifted}
use Rattle.awk_input.proofs.OutputSteps.{onward_last, open_duty}
use Rattle.awk_input.proofs.outputs.put_to.Goals as goal

pub returns-in_err-number-clause-task : goal.returns-in_err-number-clause-task
returns-in_err-number-clause-task g c =
    let e = err_from_is_err_and c.from_residual.result c.from_residual.ensures.1 in
    rw (e.1, e.2) (λ m k p old w lead. stop _ (λ l. refl) lead
    (lifted m k (rw (c.mode_of.ensures, c.class_of.ensures, c.text.ensures) at (c.in_err-number.ensures.task m)))
    refl)

pub put-requires : goal.put-requires
put-requires g c =
    let found = rw (c.class_of.ensures, c.text.ensures) at c.in_ok-number.ensures.found in
    open_duty _ (printing.class_of c.args.how) (text_of (lent_value c.args.name)) c.in_ok-number.number
    c.open_output.new.streams found c.open_output.ensures.owns

pub returns-clause-task : goal.returns-clause-task
returns-clause-task g c = λ m k p old w lead.
    let found = rw (c.class_of.ensures, c.text.ensures) at c.in_ok-number.ensures.found in
    onward_last m p (Do (machine.Put c.args.place (Named (printing.class_of c.args.how)
    (text_of (lent_value c.args.name))) c.args.text)) old (k, c.open_output.new.streams)
    (k, c.open_output.new.streams) w c.open_output.new.world c.put.new.world c.put.result
    (part _ lead (lifted m k (rw (c.mode_of.ensures, c.class_of.ensures, c.text.ensures) at
    (c.open_output.ensures.task m))) c.in_ok-number.was)
    (lifted m k (λ s. c.put.ensures.task m s c.open_output.new.streams (Named (printing.class_of c.args.how)
    (text_of (lent_value c.args.name))) found))

pub returns-clause-owns : goal.returns-clause-owns
returns-clause-owns g c = rw c.put.ensures.numbers c.open_output.ensures.owns
