use Rattle.std.proofs.Common.{arith}
use Rattle.awk_numbers.proofs.Closest.{small_power}
use Rattle.awk_numbers.proofs.fixed.ten_to.Goals as goal

pub overflow_mul-power : goal.overflow_mul-power
overflow_mul-power c = small_power c.places.power c.places._turn (c.places.invariant)
    (omega (arith, c.requires, c.places-test.true))
