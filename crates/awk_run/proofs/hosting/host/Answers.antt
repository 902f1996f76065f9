use Rattle.awk_run.proofs.Knowing.{told_is}
use Rattle.awk_run.proofs.hosting.host.Goals as goal

pub returns : goal.returns
returns c = told_is c.args.script.now c.args.setup.now c.args.steps c.told.result c.requires c.told.ensures
