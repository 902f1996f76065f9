use Rattle.std.proofs.Common.{arith}
use Rattle.box_advice.proofs.GrantsLemmas.{all_gained, gained_next, too_many}
use Rattle.std.proofs.Common.{◌+◌, drop, []}
use Rattle.box_advice.specs.Wishes.{grants_from}
use Rattle.box_advice.proofs.wanting.Gains.of.Goals as goal

pub returns-then-len-room : goal.returns-then-len-room
returns-then-len-room c =
    too_many c.args.policy.now c.args.wishes.now (drop (c.loop-wish.wish-index + 1) c.args.wishes.now)
    c.take.new.self.rules.items
    (gained_next c.args.policy.now c.args.wishes.now c.loop-wish.wish-index c.wish-item.result
    c.loop-wish.gains.rules.items c.take.new.self.rules.items
    (grants_from c.args.policy.now [] c.args.wishes.now) c.loop-wish-test.true c.wish-item.is
    c.in_ok-take.ensures.gained c.loop-wish.invariant.rest)
    (omega (arith, c.if-len-room.true, c.len.ensures, c.count-room.ensures.count, c.count-room.ensures.limit))

pub loop-wish-preserved : goal.loop-wish-preserved
loop-wish-preserved c = record {
  kept = c.in_ok-take.ensures.kept;
  rest = gained_next c.args.policy.now c.args.wishes.now c.loop-wish.wish-index c.wish-item.result
      c.loop-wish.gains.rules.items c.take.new.self.rules.items
      (grants_from c.args.policy.now [] c.args.wishes.now) c.loop-wish-test.true c.wish-item.is
      c.in_ok-take.ensures.gained c.loop-wish.invariant.rest;
  few = omega (arith, c.if-len-room.false, c.len.ensures);
}

pub returns : goal.returns
returns c =
    all_gained c.args.policy.now c.args.wishes.now c.loop-wish.wish-index c.loop-wish.gains.rules.items
    c.loop-wish-test.false c.loop-wish.invariant.rest
    (omega (arith, c.loop-wish.invariant.few, c.count-room.ensures.count, c.count-room.ensures.limit))
