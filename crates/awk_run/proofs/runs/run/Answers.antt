use Rattle.std.proofs.Common.{ap, sym}
use Rattle.awk_machine.specs.Pieces.{nowhere}
use Rattle.awk_program.specs.View.{view_program}
use Rattle.awk_run.proofs.Starting.{reported_none}
use Rattle.awk_run.specs.Givens.{given_of}
use Rattle.awk_run.proofs.Running.{sound_so}
use Rattle.awk_run.proofs.runs.run.Goals as goal

pub returns-in_default : goal.returns-in_default
returns-in_default g c = reported_none g.W.World (given_of c.args.script.now c.args.setup.now c.args.steps)
    c.args.world.now nowhere (g.met.W.World.follows_none c.args.world.now)

pub run_program-requires : goal.run_program-requires
run_program-requires g c = sound_so c.args.script.now c.program.result.now c.requires c.program.ensures

pub returns : goal.returns
returns g c = c.run_program.ensures (given_of c.args.script.now c.args.setup.now c.args.steps)
    (record { program = ap view_program (sym c.program.ensures); host = c.in-Ok.ensures })
    (c.start.ensures c.args.steps)
