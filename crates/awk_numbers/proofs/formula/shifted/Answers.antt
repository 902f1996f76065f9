use Rattle.std.proofs.Common.{arith}
use Rattle.std.proofs.lemmas.Float.{not_nan_f64_bits}
use Rattle.awk_numbers.proofs.formula.shifted.Goals as goal

pub float_from_bits-result : goal.float_from_bits-result
float_from_bits-result c = not_nan_f64_bits _ (omega arith)

pub float_from_bits-result-else-n-gt4092 : goal.float_from_bits-result-else-n-gt4092
float_from_bits-result-else-n-gt4092 c = not_nan_f64_bits _ (omega (arith, c.if-n-gt4092.false))

pub float_from_bits-result-else-n-gt4092-2 : goal.float_from_bits-result-else-n-gt4092-2
float_from_bits-result-else-n-gt4092-2 c = not_nan_f64_bits _ (omega (arith, c.if-n-gt4092.false))
