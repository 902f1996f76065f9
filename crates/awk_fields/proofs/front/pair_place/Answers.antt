use Rattle.std.proofs.Common.{None, Some}
use Rattle.awk_fields.proofs.HeadLemmas.{pair_behind}
use Rattle.awk_fields.proofs.front.pair_place.Goals as goal

pub returns-in_err-place-clause-place : goal.returns-in_err-place-clause-place
returns-in_err-place-clause-place c =
    rw c.from_residual.ensures (pair_behind c.args.body.now c.args.known c.saturating_sub-from.result None
    c.saturating_sub-from.ensures c.requires.inside c.requires.none c.in_err-place.ensures)

pub returns-clause-place : goal.returns-clause-place
returns-clause-place c =
    pair_behind c.args.body.now c.args.known c.saturating_sub-from.result (Some c.in_ok-place.place)
    c.saturating_sub-from.ensures c.requires.inside c.requires.none c.in_ok-place.ensures
