use Rattle.std.proofs.Common.{◌≡◌, ◌+◌, ◌≤◌, drop, length, map, reverse}
use Rattle.awk_numbers.proofs.decimal.text_of.Given as goal

abbrev pub invariant-loop-left : goal.invariant-loop-left
invariant-loop-left l = (l.left ≤ length l.digits) × (l.text.items ≡ map (λ d. 48 + d) (reverse (drop l.left l.digits)))

abbrev pub decreases-loop-left : goal.decreases-loop-left
decreases-loop-left l = l.left
