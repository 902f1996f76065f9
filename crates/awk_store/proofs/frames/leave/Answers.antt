use Rattle.awk_store.proofs.CallSteps.{leaves_so}
use Rattle.awk_store.proofs.frames.leave.Goals as goal

pub returns : goal.returns
returns c = λ g t vs. leaves_so g (c.args.store.now, t) c.args.caller vs c.leave.new.self c.leave.ensures
