use Rattle.awk_machine.proofs.Bounds as laws
use Rattle.awk_machine.proofs.laws.steps_bounded.Goals as goal

-- src/laws.rt:21:1
pub returns : goal.returns
returns c = laws.within_bound
