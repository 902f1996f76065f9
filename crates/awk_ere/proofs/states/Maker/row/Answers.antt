use Rattle.std.proofs.Common.{refl, ◌∙◌, subst, arith}
use Rattle.awk_ere.specs.Closure.{AreEating}
use Rattle.awk_ere.specs.Table.{IsKnown}
use Rattle.awk_ere.proofs.Gathering.{later_self, later_then}
use Rattle.awk_ere.proofs.Making.{known_eating, row_begins, row_more, row_same}
use Rattle.awk_ere.proofs.states.Maker.row.Goals.{then-edges-byte+in_ok-state, else-edges-byte}
use Rattle.awk_ere.proofs.states.Maker.row.Goals as goal

pub loop-byte-init : goal.loop-byte-init
loop-byte-init c = record {
  made = record {
    room = c.requires.made.room;
    by = c.requires.made.by;
    slots = c.requires.made.slots;
    closed = c.requires.made.closed;
  };
  later = later_self _;
  eats = refl;
  inside = omega arith;
  row = row_begins _ _ _ _ _;
}

pub loop-byte-preserved : goal.loop-byte-preserved
loop-byte-preserved c =
    let had = c.loop-byte.invariant in
    let maker = c.requires.maker in
    let small = c.loop-byte-test.true in
    let run = maker.runs.inside c.loop-byte.byte small in
    elim c.if-edges-byte.branch [
      | then-edges-byte+in_ok-state w ↦ rw (w.states-is, w.row-is) (record {
        made = w.in_ok-state.ensures.made;
        later = later_then _ _ _ had.later w.in_ok-state.ensures.later;
        eats = w.in_ok-state.ensures.eats ∙ had.eats;
        inside = omega (arith, run.1);
        row = row_more _ _ _ maker.are _ maker.runs _ _ small _ _ _ _ _ w.in_ok-state.ensures.later
            w.fill_from.ensures.kept w.fill_from.ensures.rest
            (subst (λ x. IsKnown c.args.self.now.sets.now c.args.self.now.program.now c.loop-byte.byte x
            w.cell.new.states.lists w.in_ok-state.state) had.eats w.in_ok-state.ensures.known) had.row;
      })
      | else-edges-byte w ↦ rw (w.states-is, w.row-is) (record {
        made = had.made;
        later = had.later;
        eats = had.eats;
        inside = omega (arith, run.1);
        row = row_same _ _ _ maker.are _ maker.runs _ _ small _ c.list_edges-edges.result _
            (rw c.deref.ensures.value at c.list_edges-edges.ensures) w.if-edges-byte.false had.row;
      })
    ]

pub returns-clause-known : goal.returns-clause-known
returns-clause-known c = λ b lt. known_eating _ _ _ _ _ _ _
    (subst (λ x. AreEating c.args.self.now.program.now x c.find_eating.new.found.items) c.list.ensures
    c.in_ok-find_eating.ensures) (c.loop-byte.invariant.row.known b (omega (arith, c.loop-byte-test.false, lt)) lt)
