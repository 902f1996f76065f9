use Rattle.awk_run.proofs.RuleSteps.{comes_back}
use Rattle.awk_run.proofs.records.turn.Goals as goal

pub returns : goal.returns
returns g c =
    rw c.come_back.ensures (comes_back g.W.World c.args.cx.now (c.args.run.now.store, c.args.run.now.streams)
    (c.one_record.new.run.store, c.one_record.new.run.streams) c.args.world.now c.one_record.new.world
    c.one_record.result c.one_record.ensures)
