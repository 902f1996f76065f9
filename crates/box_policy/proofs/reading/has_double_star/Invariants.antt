use Rattle.std.proofs.Common.{◌≡◌, length}
use Rattle.box_policy.specs.Wellformed.{has_double_star}
use Rattle.box_policy.proofs.reading.has_double_star.Given as goal

abbrev pub invariant-loop-rest : goal.invariant-loop-rest
invariant-loop-rest l = has_double_star l.rest ≡ has_double_star l.piece

abbrev pub decreases-loop-rest : goal.decreases-loop-rest
decreases-loop-rest l = length l.rest
