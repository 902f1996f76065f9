use Rattle.std.proofs.Common.{◌≡◌, ◌++◌, replicate}
use Rattle.awk_numbers.proofs.short.push_padded.Given as goal

abbrev pub invariant-zeros : goal.invariant-zeros
invariant-zeros l = l.out.items ≡ l.fn.out.items ++ replicate l._turn 48
