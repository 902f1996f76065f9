use Rattle.awk_store.proofs.Leaving.{exit_is}
use Rattle.awk_store.proofs.jumps.exit.Goals as goal

pub returns : goal.returns
returns c = λ g t place. exit_is g c.args.store.now t place c.unwind.new.self c.unwind.ensures
