use Rattle.awk_machine.specs.Pieces.{nowhere}
use Rattle.awk_run.proofs.Starting.{owns_none, reported_none, reached_first}
use Rattle.awk_run.proofs.program.run_program.Goals as goal

pub returns-in_default : goal.returns-in_default
returns-in_default g c = λ m is start. reported_none g.W.World m c.args.world.now nowhere
    (g.met.W.World.follows_none c.args.world.now)

pub work-end-requires : goal.work-end-requires
work-end-requires g c = owns_none (g.W.World.open_numbers c.args.world.now) c.new-2.result c.new-2.ensures.none

pub close-outcome-requires : goal.close-outcome-requires
close-outcome-requires g c = c.work-end.ensures.owns

pub returns : goal.returns
returns g c = λ m is start.
    rw c.used.ensures (c.close-outcome.ensures m c.work-end.new.run.store c.args.world.now
    (c.work-end.ensures.plays m is start c.args.world.now
    (reached_first m c.args.cx.now is c.requires g.W.World c.args.world.now
    (g.met.W.World.follows_none c.args.world.now) c.in-Ok.store c.new-2.result
    (rw (c.as_slice-names.ensures, c.numbers.ensures, c.seed.ensures) at c.in-Ok.ensures.ok) c.new-2.ensures.none
    c.new-2.ensures.input)))
