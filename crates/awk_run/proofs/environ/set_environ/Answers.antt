use Rattle.std.proofs.Common.{ap}
use Rattle.awk_machine.specs.Pieces as machine
use Rattle.awk_machine.specs.Pieces.{nowhere, Do, Set}
use Rattle.awk_program.specs.Program.{global}
use Rattle.awk_program.specs.declared.variables.Own.TheVariants as own
use Rattle.awk_text.specs.declared.value.Value.TheVariants as v
use Rattle.awk_run.proofs.Preparing.{where_sound}
use Rattle.awk_run.proofs.environ.set_environ.Goals as goal

pub returns : goal.returns
returns c = λ m t. where_sound
    (λ sound. ap (λ x. Do (Set (machine.Element (global x) c.args.name.now nowhere) nowhere (v.Input c.args.text)))
    (sound.own own.Environ)) (rw c.slot.ensures at (c.set_element.ensures m t nowhere))
