use Rattle.awk_store.proofs.Beginning.{begins}
use Rattle.awk_store.proofs.laws.begins.Goals as goal

pub returns : goal.returns
returns c = begins
