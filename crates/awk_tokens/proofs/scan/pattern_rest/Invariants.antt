use Rattle.std.proofs.Common.{◌≡◌, ◌≤◌, length}
use Rattle.awk_tokens.specs.Scan.{pattern_rest}
use Rattle.awk_tokens.specs.declared.scan.ErePart.TheVariants.{Outside}
use Rattle.awk_tokens.proofs.scan.pattern_rest.Given as goal

abbrev pub invariant-loop-z : goal.invariant-loop-z
invariant-loop-z l = (pattern_rest l.part l.skip l.z ≡ pattern_rest Outside 0 l.initial.z)
    × (length l.z ≤ length l.initial.z)

abbrev pub decreases-loop-z : goal.decreases-loop-z
decreases-loop-z l = length l.z
