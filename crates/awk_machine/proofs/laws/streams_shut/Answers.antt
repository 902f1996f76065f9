use Rattle.awk_machine.proofs.Shutting as laws
use Rattle.awk_machine.proofs.laws.streams_shut.Goals as goal

-- src/laws.rt:15:1
pub returns-clause-turns : goal.returns-clause-turns
returns-clause-turns c = laws.in_turn

-- src/laws.rt:15:1
pub returns-clause-shut : goal.returns-clause-shut
returns-clause-shut c = laws.all_shut
