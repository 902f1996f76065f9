use Rattle.awk_numbers.proofs.Drawing.{drawn_fraction}
use Rattle.awk_numbers.proofs.laws.fractions.Goals as goal

pub returns : goal.returns
returns c = drawn_fraction
