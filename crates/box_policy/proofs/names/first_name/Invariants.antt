use Rattle.std.proofs.Common.{◌≡◌, ◌≤◌, length}
use Rattle.box_policy.specs.Paths.{names}
use Rattle.box_policy.proofs.names.first_name.Given as goal

-- what was passed over leads nowhere
abbrev pub invariant-loop-rest : goal.invariant-loop-rest
invariant-loop-rest l = (names l.rest ≡ names l.text) × (length l.rest ≤ length l.text)

abbrev pub decreases-loop-rest : goal.decreases-loop-rest
decreases-loop-rest l = length l.rest
