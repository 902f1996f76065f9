use Rattle.std.proofs.Common.{◌<◌, ◌≤◌, length, slice_index, arith}
use Rattle.awk_ere.proofs.Seeking.{begins_by}
use Rattle.awk_ere.proofs.Tables.{longest_begin, at_next, at_turn, at_dead, at_last}
use Rattle.awk_ere.proofs.table.Matcher.longest.Goals as goal

pub loop-place-init : goal.loop-place-init
loop-place-init c = record {
  at' = begins_by c.args.self.now _ c.self.view_is _ _ _ _ c.in_ok-state.ensures _ _ _ c.as_slice-cells.ensures.value
      c.as_slice-accepts.ensures.value c.as_slice-ends.ensures.value;
  best = longest_begin _ _ _ _ _;
}

pub loop-place-preserved : goal.loop-place-preserved
loop-place-preserved c =
    let le : c.args.from ≤ c.loop-place.place = omega arith in
    let lt : c.loop-place.place < length c.args.text.now = omega arith in
    let byte : slice_index c.args.text.now c.loop-place.place < 256 = omega (arith, c.type_inv.text c.loop-place.place)
    in
    record {
      at' = at_next _ _ _ _ _ _ _ _ _ _ c.loop-place.invariant.at' le lt byte (omega arith);
      best = rw c.noted-best.ensures (at_turn _ _ _ _ _ _ _ _ _ _ c.loop-place.invariant.at' le lt _
          c.loop-place.invariant.best);
    }

pub returns : goal.returns
returns c =
    rw c.noted.ensures (at_last _ _ _ _ _ _ _ _ _ _ c.loop-place.invariant.at' (omega arith) (omega arith) _
    c.loop-place.invariant.best)

pub returns-then-next-eq-DEAD : goal.returns-then-next-eq-DEAD
returns-then-next-eq-DEAD c =
    let le : c.args.from ≤ c.loop-place.place = omega arith in
    let lt : c.loop-place.place < length c.args.text.now = omega arith in
    let byte : slice_index c.args.text.now c.loop-place.place < 256 = omega (arith, c.type_inv.text c.loop-place.place)
    in
    rw c.noted-best.ensures (at_dead _ _ _ _ _ _ _ _ _ _ c.loop-place.invariant.at' le lt byte (omega arith) _
    (at_turn _ _ _ _ _ _ _ _ _ _ c.loop-place.invariant.at' le lt _ c.loop-place.invariant.best))
