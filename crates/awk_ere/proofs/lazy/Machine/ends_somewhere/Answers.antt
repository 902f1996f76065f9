use Rattle.std.proofs.Common.{◌≤◌, ◌<◌, length, refl, sym, subst, arith}
use Rattle.awk_ere.specs.Table.{IsFront}
use Rattle.awk_ere.proofs.Gathering.{later_steps}
use Rattle.awk_ere.proofs.Meeting.{flag_at}
use Rattle.awk_ere.proofs.Tables.{at_first, longest_begin, front_step, front_pass, front_accept, front_finish}
use Rattle.awk_ere.proofs.lazy.Machine.ends_somewhere.Goals as goal

pub loop-place-init : goal.loop-place-init
loop-place-init c = record {
  met = c.in_ok-state.ensures.met;
  state = c.in_ok-state.ensures.state.0;
  front = at_first _ _ _ _ _ _ c.requires.step c.in_ok-state.ensures.state.1;
  none = longest_begin _ _ _ _ _;
}

pub loop-place-preserved : goal.loop-place-preserved
loop-place-preserved c =
    let had = c.loop-place.invariant in
    let le : c.args.from ≤ c.loop-place.place = omega (arith, c.loop-place.auto.place) in
    let lt : c.loop-place.place < length c.args.text.now = c.loop-place-test.true in
    let next = rw c.in-Some.is at c.in_ok-next.ensures.next in
    let same = later_steps c.loop-place.met.lists c.next.new.met.lists c.loop-place.state had.state
    c.in_ok-next.ensures.later in
    let front = subst (IsFront c.args.self.now.sets.now c.args.self.now.program.now c.args.text.now c.args.self.now.step
    c.args.from c.loop-place.place) (sym same) had.front in
    record {
      met = c.in_ok-next.ensures.met;
      state = next.0;
      front = front_step _ _ _ _ _ _ _ _ le lt front next.1;
      none = front_pass _ _ _ _ _ _ _ had.front le lt _ (flag_at c.loop-place.met.rows.accepts.items had.state
          had.met.rows.accept c.index.ensures) c.if-index.false had.none;
    }

pub index-requires : goal.index-requires
index-requires c = omega (
  arith,
  c.loop-place.invariant.state,
  c.loop-place.invariant.met.rows.accept.len,
  c.loop-place.met.rows.accepts.ok,
)

pub returns-then-index : goal.returns-then-index
returns-then-index c =
    let had = c.loop-place.invariant in
    let le : c.args.from ≤ c.loop-place.place = omega (arith, c.loop-place.auto.place) in
    record {
      met = had.met;
      ends = (
        (λ t. front_accept _ _ _ _ _ _ _ had.front le c.loop-place-test.true _
            (flag_at c.loop-place.met.rows.accepts.items had.state had.met.rows.accept c.index.ensures)
            c.if-index.true),
        (λ run. refl),
      );
    }

pub returns : goal.returns
returns c =
    let had = c.loop-place.invariant in
    record {
      met = had.met;
      ends = front_finish _ _ _ _ _ _ _ had.front (omega (arith, c.loop-place.auto.place, c.loop-place-test.false))
          (omega (arith, c.loop-place.auto.place, c.requires.from, c.loop-place-test.false)) _
          (flag_at c.loop-place.met.rows.ends.items had.state had.met.rows.end c.index-2.ensures) had.none;
    }
