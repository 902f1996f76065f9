use Rattle.std.proofs.Common.{arith}
use Rattle.awk_numbers.proofs.short.push_exponent.Goals as goal

pub returns-then-place-lt-UNIT-clause-length : goal.returns-then-place-lt-UNIT-clause-length
returns-then-place-lt-UNIT-clause-length c = omega (
  arith,
  c.push_padded.ensures.most 4 (omega arith) (omega arith),
  c.push.ensures.len,
  c.push-then-place-lt-UNIT.ensures.len,
  c.requires.room,
)

pub returns-else-place-lt-UNIT-clause-length : goal.returns-else-place-lt-UNIT-clause-length
returns-else-place-lt-UNIT-clause-length c = omega (
  arith,
  c.push_padded-else-place-lt-UNIT.ensures.most 4 (omega (arith, c.requires.place)) (omega arith),
  c.push.ensures.len,
  c.push-else-place-lt-UNIT.ensures.len,
  c.requires.room,
)
