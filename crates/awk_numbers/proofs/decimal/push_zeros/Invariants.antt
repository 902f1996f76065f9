use Rattle.std.proofs.Common.{◌≡◌, ◌++◌, replicate}
use Rattle.awk_numbers.proofs.decimal.push_zeros.Given as goal

abbrev pub invariant-zeros : goal.invariant-zeros
invariant-zeros l = l.text.items ≡ l.fn.text.items ++ replicate l._turn 48
