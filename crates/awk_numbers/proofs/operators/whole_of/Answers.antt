use Rattle.std.proofs.Common.{sym, ◌∙◌, SFits, w64}
use Rattle.std.proofs.lemmas.Int.{to_z-of_z}
use Rattle.std.proofs.lemmas.Float.{T_from_true}
use lib.Ieee.Fits.{and_l, and_r}
use Rattle.awk_numbers.proofs.Settling.{bounded_at}
use Rattle.awk_numbers.proofs.operators.whole_of.Goals as goal

pub truncating_f64_to_i64-requires-clause-lower_bound : goal.truncating_f64_to_i64-requires-clause-lower_bound
truncating_f64_to_i64-requires-clause-lower_bound c =
    and_l _ _ (T_from_true _ (sym c.is_bounded.ensures ∙ c.if-is_bounded.true))

pub truncating_f64_to_i64-requires-clause-upper_bound : goal.truncating_f64_to_i64-requires-clause-upper_bound
truncating_f64_to_i64-requires-clause-upper_bound c =
    and_r _ _ (T_from_true _ (sym c.is_bounded.ensures ∙ c.if-is_bounded.true))

pub returns-in-Real : goal.returns-in-Real
returns-in-Real c =
    let f : SFits w64 c.truncating_f64_to_i64.result = record { sfits = c.truncating_f64_to_i64.type_inv } in
    bounded_at c.args.x c.in-Real.y _ c.in-Real.is (sym c.is_bounded.ensures ∙ c.if-is_bounded.true)
    (to_z-of_z w64 c.truncating_f64_to_i64.result f ∙ c.truncating_f64_to_i64.ensures)
