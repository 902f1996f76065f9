use Rattle.std.proofs.Common.{refl}
use Rattle.awk_streams.proofs.Chain.{at_once, done}
use Rattle.awk_streams.proofs.getline.open_source.Goals as goal

pub returns-in-Standard-clause-task : goal.returns-in-Standard-clause-task
returns-in-Standard-clause-task g c = rw c.in-Standard.is (λ m s. done (at_once _ c.args.streams.now c.args.world.now))

pub returns-in-Standard-clause-live : goal.returns-in-Standard-clause-live
returns-in-Standard-clause-live g c = rw c.in-Standard.is (λ e. (c.args.streams.now.input, refl))

pub returns-in-Stream-clause-task : goal.returns-in-Stream-clause-task
returns-in-Stream-clause-task g c = rw c.in-Stream.is c.open_named.ensures.task
