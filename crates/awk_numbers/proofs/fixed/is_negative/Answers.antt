use Rattle.std.proofs.Common.{◌∙◌, sym}
use Rattle.awk_numbers.proofs.Closest.{nan_sign}
use Rattle.awk_numbers.proofs.fixed.is_negative.Goals as goal

pub returns-then-is_nan : goal.returns-then-is_nan
returns-then-is_nan c = nan_sign c.args.x (sym c.is_nan.ensures.value ∙ c.if-is_nan.true)
