use Rattle.std.proofs.Common.{◌∙◌, SFits, w64, to_z, of_z}
use Rattle.std.proofs.lemmas.Int.{to_z-of_z}
use Rattle.std.proofs.lemmas.Float.{T_from_true, T_from_false}
use Rattle.awk_numbers.proofs.Settling.{above_least, below_past, cut_fits, settles_whole, settles_real}
use Rattle.awk_numbers.proofs.number.settle_small.Goals as goal

pub truncating_f64_to_i64-n-requires-clause-lower_bound : goal.truncating_f64_to_i64-n-requires-clause-lower_bound
truncating_f64_to_i64-n-requires-clause-lower_bound c = above_least c.args.x c.requires

pub truncating_f64_to_i64-n-requires-clause-upper_bound : goal.truncating_f64_to_i64-n-requires-clause-upper_bound
truncating_f64_to_i64-n-requires-clause-upper_bound c = below_past c.args.x c.requires

pub int_to_float-n : goal.int_to_float-n
int_to_float-n c =
    let f : SFits w64 c.truncating_f64_to_i64-n.result = record { sfits = c.truncating_f64_to_i64-n.type_inv } in
    cut_fits c.args.x _ c.requires (to_z-of_z w64 c.truncating_f64_to_i64-n.result f
    ∙ c.truncating_f64_to_i64-n.ensures)

pub returns-then-n-x : goal.returns-then-n-x
returns-then-n-x c =
    let f : SFits w64 c.truncating_f64_to_i64-n.result = record { sfits = c.truncating_f64_to_i64-n.type_inv } in
    settles_whole c.args.x _ c.requires (to_z-of_z w64 c.truncating_f64_to_i64-n.result f
    ∙ c.truncating_f64_to_i64-n.ensures) (T_from_true _ c.if-n-x.true)

pub returns-else-n-x : goal.returns-else-n-x
returns-else-n-x c =
    let f : SFits w64 c.truncating_f64_to_i64-n.result = record { sfits = c.truncating_f64_to_i64-n.type_inv } in
    settles_real c.args.x (to_z w64 (of_z w64 c.truncating_f64_to_i64-n.result)) c.requires
    (to_z-of_z w64 c.truncating_f64_to_i64-n.result f ∙ c.truncating_f64_to_i64-n.ensures)
    (T_from_false _ c.if-n-x.false)
