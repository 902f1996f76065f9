use Rattle.awk_ere.specs.Matcher.{matcher_of}
use Rattle.awk_ere.proofs.Meeting.{is_ahead}
use Rattle.awk_ere.proofs.table.Matcher.lazy.Goals as goal

pub new-requires : goal.new-requires
new-requires c =
    let stands = rw (← c.self.view_is) at c.requires.2 in
    rw (
      c.in_ok-source.ensures.items,
      c.in_ok-sets.ensures.items,
      c.in_ok-program.ensures.items,
      c.deref.ensures.value,
      c.deref-2.ensures.value,
    )
    (c.requires.0, c.requires.1, stands, is_ahead (matcher_of c.self.inside) _ _ stands c.self.invariant.1)
