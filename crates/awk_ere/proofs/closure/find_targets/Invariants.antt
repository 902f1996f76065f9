use Rattle.awk_ere.proofs.Gathering.{IsGathered, Target}
use Rattle.awk_ere.proofs.closure.find_targets.Given as goal

abbrev pub invariant-loop-at : goal.invariant-loop-at
invariant-loop-at l = IsGathered (Target l.sets l.program l.byte l.list) l.at-index l.found.items
