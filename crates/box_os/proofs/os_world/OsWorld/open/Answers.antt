use Rattle.std.proofs.lemmas.List.{map-append}
use Rattle.box_os.proofs.OsRising.{next-is_new, rises-given, rises-le}
use Rattle.box_os.specs.declared.table.OpenStream.{OpenStream}
use Rattle.box_os.proofs.os_world.OsWorld.open.Goals as goal

pub invariant_of-self-in-Ok-open_stream : goal.invariant_of-self-in-Ok-open_stream
invariant_of-self-in-Ok-open_stream c =
    let pushed = rw (c.unwrap.ensures, c.in-Ok-try_from.ensures.1) at c.push.ensures.items in
    rw (pushed, c.reserve.ensures.items, map-append (λ (s : OpenStream). s.number)) (rises-given _ _ _ c.self.invariant)

pub returns-in-Ok-open_stream-clause-fits : goal.returns-in-Ok-open_stream-clause-fits
returns-in-Ok-open_stream-clause-fits c = rw (c.in-Ok-try_from.ensures.1, ← c.self.view_is)
    (rises-le _ _ _ c.self.invariant, next-is_new _ _ _ c.self.invariant)
