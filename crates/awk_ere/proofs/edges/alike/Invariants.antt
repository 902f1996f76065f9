use Rattle.awk_ere.proofs.Making.{AreRunsSoFar}
use Rattle.awk_ere.proofs.edges.alike.Given as goal

abbrev pub invariant-loop-passed : goal.invariant-loop-passed
invariant-loop-passed l = AreRunsSoFar l.edges l.last l.passed
