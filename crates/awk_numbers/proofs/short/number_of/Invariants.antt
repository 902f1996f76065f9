use Rattle.std.proofs.Common.{◌≡◌, ◌^◌}
use Rattle.awk_numbers.specs.Figures.{below}
use Rattle.awk_numbers.proofs.short.number_of.Given as goal

abbrev pub invariant-loop-i : goal.invariant-loop-i
invariant-loop-i l = (l.sum ≡ below l.digits l.i) × (l.unit ≡ 10 ^ l.i)
