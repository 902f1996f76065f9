use Rattle.awk_store.proofs.Cells.{change_count}
use Rattle.awk_store.proofs.Setting as by
use Rattle.awk_store.proofs.laws.sets.Goals as goal

pub returns-clause-variable : goal.returns-clause-variable
returns-clause-variable c = by.variable

pub returns-clause-own : goal.returns-clause-own
returns-clause-own c = by.own

pub returns-clause-array_at : goal.returns-clause-array_at
returns-clause-array_at c = by.array_at

pub returns-clause-array : goal.returns-clause-array
returns-clause-array c = by.array

pub returns-clause-count : goal.returns-clause-count
returns-clause-count c = change_count
