use Rattle.std.proofs.Common.{◌∙◌}
use Rattle.awk_ere.proofs.Meeting.{rows_push, begun_later}
use Rattle.awk_ere.proofs.lazy.Machine.state_of.Goals as goal

pub returns-in_ok-add_row-clause-met : goal.returns-in_ok-add_row-clause-met
returns-in_ok-add_row-clause-met c =
    let new = c.in_ok-at.ensures.new c.if-is_new.true in
    let steps = c.list.ensures ∙ c.in_ok-at.ensures.number.1 in
    record {
      rows = rows_push _ _ _ _ _ new _ _ _ _ _ _ c.in_ok-add_row.ensures.cells
          (rw steps at c.in_ok-add_row.ensures.accepts) (rw steps at c.in_ok-add_row.ensures.ends) c.requires.met.rows;
      first = begun_later c.args.self.now.sets.now _ _ _ _ _ _ (_, new) c.requires.met.first;
      later = begun_later c.args.self.now.sets.now _ _ _ _ _ _ (_, new) c.requires.met.later;
    }

pub returns-else-is_new-clause-met : goal.returns-else-is_new-clause-met
returns-else-is_new-clause-met c =
    rw (c.in_ok-at.ensures.old c.if-is_new.false) (record {
      rows = c.requires.met.rows;
      first = c.requires.met.first;
      later = c.requires.met.later;
    })
