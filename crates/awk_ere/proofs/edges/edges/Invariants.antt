use Rattle.awk_ere.proofs.Gathering.{AreEdgesOf}
use Rattle.awk_ere.proofs.edges.edges.Given as goal

abbrev pub invariant-loop-step : goal.invariant-loop-step
invariant-loop-step l = AreEdgesOf l.sets l.program l.step-index l.edges
