use Rattle.std.proofs.Common.{◌≡◌, ◌≤◌, ◌<◌, length, zero, sym, subst, arith}
use Rattle.std.proofs.lemmas.Bool.Decides.{nat_tests}
use Rattle.awk_ere.specs.Table.{IsFront, steps_of}
use Rattle.awk_ere.proofs.Gathering.{later_steps}
use Rattle.awk_ere.proofs.Meeting.{flag_at, nothing_in}
use Rattle.awk_ere.proofs.Tables.{at_first, longest_begin, longest_dead, front_step, front_turn, front_last}
use Rattle.awk_ere.proofs.lazy.Machine.longest.Goals as goal

pub loop-place-init : goal.loop-place-init
loop-place-init c = record {
  met = c.in_ok-state.ensures.met;
  state = c.in_ok-state.ensures.state.0;
  front = at_first _ _ _ _ _ _ c.requires.step c.in_ok-state.ensures.state.1;
  best = longest_begin _ _ _ _ _;
}

pub loop-place-preserved : goal.loop-place-preserved
loop-place-preserved c =
    let had = c.loop-place.invariant in
    let le : c.args.from ≤ c.loop-place.place = omega (arith, c.loop-place.auto.place) in
    let lt : c.loop-place.place < length c.args.text.now = c.loop-place-test.true in
    let next = rw c.in-Some.is at c.in_ok-next.ensures.next in
    let same = later_steps c.loop-place.met.lists c.next.new.met.lists c.loop-place.state had.state
    c.in_ok-next.ensures.later in
    let front = subst (IsFront c.args.self.now.sets.now c.args.self.now.program.now c.args.text.now c.args.self.now.step
    c.args.from c.loop-place.place) (sym same) had.front in
    record {
      met = c.in_ok-next.ensures.met;
      state = next.0;
      front = front_step _ _ _ _ _ _ _ _ le lt front next.1;
      best = rw c.noted-best.ensures (front_turn _ _ _ _ _ _ _ had.front le lt _
          (flag_at c.loop-place.met.rows.accepts.items had.state had.met.rows.accept c.index.ensures) _ had.best);
    }

pub index-requires : goal.index-requires
index-requires c = omega (
  arith,
  c.loop-place.invariant.state,
  c.loop-place.invariant.met.rows.accept.len,
  c.loop-place.met.rows.accepts.ok,
)

pub returns-then-is_empty : goal.returns-then-is_empty
returns-then-is_empty c =
    let had = c.loop-place.invariant in
    let le : c.args.from ≤ c.loop-place.place = omega (arith, c.loop-place.auto.place) in
    let lt : c.loop-place.place < length c.args.text.now = c.loop-place-test.true in
    let next = rw c.in-Some.is at c.in_ok-next.ensures.next in
    let same = later_steps c.loop-place.met.lists c.next.new.met.lists c.loop-place.state had.state
    c.in_ok-next.ensures.later in
    let front = subst (IsFront c.args.self.now.sets.now c.args.self.now.program.now c.args.text.now c.args.self.now.step
    c.args.from c.loop-place.place) (sym same) had.front in
    let empty : length c.list.result.now ≡ zero = grind (arith, nat_tests, c.is_empty.ensures, c.if-is_empty.true) in
    let none : length (steps_of c.next.new.met.lists c.in-Some.next) ≡ zero = rw c.list.ensures at empty in
    record {
      met = c.in_ok-next.ensures.met;
      longest = longest_dead _ _ _ _ _ _ le lt _ (front_step _ _ _ _ _ _ _ _ le lt front next.1) (nothing_in _ none) _
          (rw c.noted-best.ensures (front_turn _ _ _ _ _ _ _ had.front le lt _
          (flag_at c.loop-place.met.rows.accepts.items had.state had.met.rows.accept c.index.ensures) _ had.best));
    }

pub returns : goal.returns
returns c =
    let had = c.loop-place.invariant in
    record {
      met = had.met;
      longest = rw c.noted.ensures (front_last _ _ _ _ _ _ _ had.front
          (omega (arith, c.loop-place.auto.place, c.loop-place-test.false))
          (omega (arith, c.loop-place.auto.place, c.requires.from, c.loop-place-test.false)) _
          (flag_at c.loop-place.met.rows.ends.items had.state had.met.rows.end c.index-2.ensures) _ had.best);
    }
