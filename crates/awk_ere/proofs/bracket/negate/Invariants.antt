use Rattle.awk_ere.proofs.Sets.{IsNegating}
use Rattle.awk_ere.proofs.bracket.negate.Given as goal

abbrev pub invariant-loop-slot : goal.invariant-loop-slot
invariant-loop-slot l = IsNegating l.slot-index l.fn.set l.set
