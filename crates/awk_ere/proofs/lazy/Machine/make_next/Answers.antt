use Rattle.awk_ere.proofs.Meeting.{rows_set, cell_of}
use Rattle.awk_ere.proofs.lazy.Machine.make_next.Goals as goal

pub returns-clause-met : goal.returns-clause-met
returns-clause-met c =
    let met = c.in_ok-next.ensures.met in
    let is = cell_of _ _ c.args.byte _ _ _ _ c.args.state _ c.requires.state c.in_ok-next.ensures.later
    c.list-from.ensures c.in_ok-next.ensures.state.1 c.in_ok-steps.ensures in
    record {
      rows = rows_set _ _ _ _ _ _ _ c.args.state c.args.byte _ c.set_cell.ensures.len c.set_cell.ensures.here
          c.set_cell.ensures.other c.in_ok-next.ensures.state.0 is met.rows;
      first = met.first;
      later = met.later;
    }

pub returns-clause-next : goal.returns-clause-next
returns-clause-next c = (
  c.in_ok-next.ensures.state.0,
  cell_of _ _ c.args.byte _ _ _ _ c.args.state _ c.requires.state c.in_ok-next.ensures.later c.list-from.ensures
      c.in_ok-next.ensures.state.1 c.in_ok-steps.ensures,
)
