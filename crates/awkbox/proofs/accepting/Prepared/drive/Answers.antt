use Rattle.awkbox.proofs.Driving.{drives_counted}
use Rattle.awk_run.specs.Givens.{given_of}
use Rattle.awk_run.specs.View.{view_outcome}
use Rattle.box_policy.specs.Counts.{cleared}
use Rattle.awkbox.proofs.accepting.Prepared.drive.Goals as goal

pub returns : goal.returns
returns g c =
    let ran = rw c.with_seed-monitor.ensures at c.run-report.ensures in
    rw (c.log_end-log_end.ensures, c.denials-denials.ensures, c.into_parts-world.ensures)
    (drives_counted g.W.World.follows g.W.World.has_stopped g.W.World.stops g.L.Write.contents
    (cleared c.args.self.policy)
    (given_of c.args.self.script c.args.setup.now c.args.steps) c.args.world c.args.log
    (view_outcome c.run-report.result.outcome) c.run-report.result.used c.run-report.new.world ran)
