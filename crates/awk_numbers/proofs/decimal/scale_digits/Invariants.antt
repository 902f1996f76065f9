use Rattle.std.proofs.Common.{◌≡◌, ℕ, ◌+◌, ◌*◌, ◌^◌, ◌<◌, ◌≤◌, get_or}
use Rattle.awk_numbers.specs.Figures.{below}
use Rattle.awk_numbers.proofs.decimal.scale_digits.Given as goal

abbrev pub invariant-loop-i : goal.invariant-loop-i
invariant-loop-i l =
    (below l.digits l.i + l.carry * 10 ^ l.i ≡ below l.fn.digits l.i * l.factor + l.add)
    × ((k : ℕ) → l.i ≤ k → get_or l.digits k 0 ≡ get_or l.fn.digits k 0) × ((k : ℕ) → get_or l.digits k 0 < 10)
    × (l.carry ≤ 2 ^ 57)
