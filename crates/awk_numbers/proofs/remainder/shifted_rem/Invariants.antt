use Rattle.std.proofs.Common.{◌≡◌, ◌*◌, ◌%◌, ◌^◌, ◌<◌}
use Rattle.awk_numbers.proofs.remainder.shifted_rem.Given as goal

abbrev pub invariant-steps : goal.invariant-steps
invariant-steps l = (l.left ≡ l.n * 2 ^ (11 * l._turn) % l.divisor) × (l.left < l.divisor)
