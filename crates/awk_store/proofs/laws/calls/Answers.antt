use Rattle.std.specs.Prelude.{refl}
use Rattle.awk_store.proofs.Calling.{enters}
use Rattle.awk_store.proofs.laws.calls.Goals as goal

pub returns-clause-enters : goal.returns-clause-enters
returns-clause-enters c = enters

pub returns-clause-leaves : goal.returns-clause-leaves
returns-clause-leaves c = λ names k hidden frame n. refl

pub returns-clause-unwinds : goal.returns-clause-unwinds
returns-clause-unwinds c = λ names k hidden. refl
