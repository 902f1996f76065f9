use Rattle.std.proofs.Common.{length, arith, ap, sym}
use Rattle.awk_numbers.proofs.Integral.{some_text}
use Rattle.awk_numbers.proofs.shown.sharp_exponential.Goals as goal

pub insert-requires : goal.insert-requires
insert-requires c =
    omega (arith, some_text c.args.letter c.args.x c.args.places, ap length c.in_ok-text.ensures)
