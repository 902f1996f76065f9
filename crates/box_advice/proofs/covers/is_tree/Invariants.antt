use Rattle.std.proofs.Common.{◌≡◌, length}
use Rattle.box_advice.specs.Covers.{is_tree}
use Rattle.box_advice.proofs.covers.is_tree.Given as goal

abbrev pub invariant-loop-rest : goal.invariant-loop-rest
invariant-loop-rest l = is_tree l.rest ≡ is_tree l.components

abbrev pub decreases-loop-rest : goal.decreases-loop-rest
decreases-loop-rest l = length l.rest
