use Rattle.std.proofs.Common.{sym, ◌∙◌}
use Rattle.std.proofs.lemmas.Float.{T_from_true}
use lib.Ieee.Fits.{and_l}
use Rattle.awk_numbers.proofs.Integral.{above_minus_one}
use Rattle.awk_numbers.proofs.shown.wide_bits.Goals as goal

pub truncating_f64_to_u64-requires-clause-lower_bound : goal.truncating_f64_to_u64-requires-clause-lower_bound
truncating_f64_to_u64-requires-clause-lower_bound c =
    above_minus_one c.args.x (and_l _ _ (T_from_true _ (sym c.is_wide.ensures ∙ c.if-is_wide.true)))
