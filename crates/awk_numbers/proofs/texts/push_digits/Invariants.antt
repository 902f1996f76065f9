use Rattle.std.proofs.Common.{◌≡◌, ◌+◌, ◌≤◌, ◌++◌, drop, length, map, reverse}
use Rattle.awk_numbers.proofs.texts.push_digits.Given as goal

abbrev pub invariant-loop-left : goal.invariant-loop-left
invariant-loop-left l =
    (l.left ≤ length l.digits) × (l.out.items ≡ l.fn.out.items ++ map (λ d. 48 + d) (reverse (drop l.left l.digits)))
    × (length l.out.items + l.left ≡ length l.fn.out.items + length l.digits)

abbrev pub decreases-loop-left : goal.decreases-loop-left
decreases-loop-left l = l.left
