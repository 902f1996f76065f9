use Rattle.box_world.proofs.LawLemmas.{Follows-answered}
use Rattle.box_world.proofs.memory_world.MemoryWorldWorld.ask.Goals as goal

pub returns-clause-ok : goal.returns-clause-ok
returns-clause-ok c =
    let pushed = rw c.unwrap.ensures at c.push.ensures.items in
    rw (
      ← c.self.view_is,
      pushed,
      c.in_ok-reserve.ensures.items,
      c.in_ok-kept.ensures,
      c.in_ok-told.ensures,
      c.in_ok-leave.ensures.ok,
    )
    (Follows-answered c.args.ask.now c.in_ok-reply.reply _)
