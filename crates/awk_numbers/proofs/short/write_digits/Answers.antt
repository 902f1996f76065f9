use Rattle.std.proofs.Common.{length, ap, arith}
use Rattle.awk_numbers.proofs.short.write_digits.Goals as goal

pub put_point-requires-clause-room : goal.put_point-requires-clause-room
put_point-requires-clause-room c = omega (
  arith,
  c.push_padded.ensures.most 10 (omega (arith, c.requires.number)) (omega (arith, c.requires.places)),
  ap length c.clear.ensures,
)

pub returns-clause-length : goal.returns-clause-length
returns-clause-length c = omega (
  arith,
  c.push_padded.ensures.most 10 (omega (arith, c.requires.number)) (omega (arith, c.requires.places)),
  ap length c.clear.ensures,
  c.put_point.ensures.length,
  c.shorten.ensures.length,
)
