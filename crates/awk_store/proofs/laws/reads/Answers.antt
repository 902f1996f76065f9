use Rattle.awk_store.proofs.Reading as by
use Rattle.awk_store.proofs.laws.reads.Goals as goal

pub returns-clause-variable : goal.returns-clause-variable
returns-clause-variable c = by.variable

pub returns-clause-own : goal.returns-clause-own
returns-clause-own c = by.own

pub returns-clause-text : goal.returns-clause-text
returns-clause-text c = by.text

pub returns-clause-reference : goal.returns-clause-reference
returns-clause-reference c = by.reference

pub returns-clause-array_at : goal.returns-clause-array_at
returns-clause-array_at c = by.array_at

pub returns-clause-array : goal.returns-clause-array
returns-clause-array c = by.array

pub returns-clause-nf : goal.returns-clause-nf
returns-clause-nf c = by.tells_nf
