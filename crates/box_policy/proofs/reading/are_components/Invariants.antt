use Rattle.std.proofs.Common.{◌≡◌, length}
use Rattle.std.specs.List.{list_all}
use Rattle.box_policy.specs.Paths.{names}
use Rattle.box_policy.specs.Wellformed.{is_component}
use Rattle.box_policy.proofs.reading.are_components.Given as goal

abbrev pub invariant-loop-piece : goal.invariant-loop-piece
invariant-loop-piece l = list_all is_component (names l.rest) ≡ list_all is_component (names l.pattern)

abbrev pub decreases-loop-piece : goal.decreases-loop-piece
decreases-loop-piece l = length l.rest
