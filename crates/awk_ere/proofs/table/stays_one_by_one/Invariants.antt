use Rattle.awk_ere.specs.Table.{AllLead}
use Rattle.awk_ere.proofs.table.stays_one_by_one.Given as goal

abbrev pub invariant-loop-place : goal.invariant-loop-place
invariant-loop-place l = AllLead l.row l.text l.state l.from l.place
