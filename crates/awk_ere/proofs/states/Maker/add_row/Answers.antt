use Rattle.std.proofs.Common.{◌≡◌, length, ap, arith}
use Rattle.awk_ere.specs.Table.{steps_of}
use Rattle.awk_ere.proofs.Gathering.{rows_more}
use Rattle.awk_ere.proofs.states.Maker.add_row.Goals as goal

pub returns-clause-rows : goal.returns-clause-rows
returns-clause-rows c =
    let at : c.len.result ≡ length c.args.cells.now.items = omega (arith, c.len.ensures, c.args.cells.now.ok) in
    rows_more _ _ c.args.states.now.lists _ c.args.cells.now.items _ c.in_ok-row.row _ c.in_ok-push.ensures.items
    c.requires.inside c.in_ok-row.ensures.later (ap (λ n. steps_of c.args.states.now.lists n) at)
    c.in_ok-row.ensures.known c.requires.rows
