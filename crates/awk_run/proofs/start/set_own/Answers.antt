use Rattle.std.proofs.Common.{ap}
use Rattle.awk_machine.specs.Begins.{set_at_start}
use Rattle.awk_machine.specs.Pieces as machine
use Rattle.awk_program.specs.Program.{global}
use Rattle.awk_run.proofs.Preparing.{where_sound}
use Rattle.awk_run.proofs.start.set_own.Goals as goal

pub returns : goal.returns
returns c = λ m t. where_sound (λ sound. ap (λ x. set_at_start (machine.Variable (global x)) c.args.value)
    (sound.own c.args.name)) (rw c.slot.ensures at (c.set_variable.ensures m t))
