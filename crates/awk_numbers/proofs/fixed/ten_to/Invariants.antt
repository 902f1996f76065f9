use Rattle.std.proofs.Common.{◌≡◌, ◌^◌}
use Rattle.awk_numbers.proofs.fixed.ten_to.Given as goal

abbrev pub invariant-places : goal.invariant-places
invariant-places l = l.power ≡ 10 ^ l._turn
