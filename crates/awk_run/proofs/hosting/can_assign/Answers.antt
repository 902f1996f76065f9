use Rattle.awk_run.proofs.Knowing.{assigns_so}
use Rattle.awk_run.proofs.hosting.can_assign.Goals as goal

pub returns : goal.returns
returns c = assigns_so c.args.script.now c.args.name.now c.can_assign.result c.requires c.can_assign.ensures
