use Rattle.awk_machine.proofs.OneRun as laws
use Rattle.awk_machine.proofs.laws.one_run.Goals as goal

-- src/laws.rt:8:1
pub returns-clause-equal : goal.returns-clause-equal
returns-clause-equal c = laws.one_run

-- src/laws.rt:8:1
pub returns-clause-part : goal.returns-clause-part
returns-clause-part c = laws.first_parts
