use Rattle.awk_machine.specs.Pieces.{Do, Look}
use Rattle.awk_streams.proofs.Chain.{at_once, lacking}
use Rattle.awk_input.proofs.OperandSteps.{looks}
use Rattle.awk_input.proofs.operands.look.Goals as goal

pub returns-in_default-clause-task : goal.returns-in_default-clause-task
returns-in_default-clause-task g c = λ m is. lacking (at_once _ (c.args.store.now, c.args.streams.now) c.args.world.now)

pub returns-clause-task : goal.returns-clause-task
returns-clause-task g c = λ m is.
    c.begin_operand.ensures.task m is (Do Look) (c.args.store.now, c.args.streams.now)
    (looks m (c.args.store.now, c.args.streams.now) c.in-Ok.text c.args.next c.move_to.new.store c.in-Ok.ensures
    c.requires.next c.move_to.ensures)
