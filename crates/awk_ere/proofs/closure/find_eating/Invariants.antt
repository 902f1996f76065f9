use Rattle.awk_ere.proofs.Gathering.{IsGathered}
use Rattle.awk_ere.proofs.Making.{Eating}
use Rattle.awk_ere.proofs.closure.find_eating.Given as goal

abbrev pub invariant-loop-at : goal.invariant-loop-at
invariant-loop-at l = IsGathered (Eating l.program l.list) l.at-index l.found.items
