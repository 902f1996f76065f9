use Rattle.awk_ere.proofs.Making.{AreEdgesSoFar}
use Rattle.awk_ere.proofs.edges.list_edges.Given as goal

abbrev pub invariant-loop-at : goal.invariant-loop-at
invariant-loop-at l = AreEdgesSoFar l.sets l.program l.list l.at-index l.edges
