use Rattle.std.proofs.Common.{◌≡◌}
use Rattle.awk_numbers.specs.Figures.{below}
use Rattle.awk_numbers.proofs.decimal.ends_in_zeros.Given as goal

abbrev pub invariant-loop-place : goal.invariant-loop-place
invariant-loop-place l = below l.digits l.place ≡ 0
