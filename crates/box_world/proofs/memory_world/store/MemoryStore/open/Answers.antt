use Rattle.std.proofs.Common.{◌≡◌, refl, ap, sym, ◌∙◌, arith}
use Rattle.box_world.specs.MemoryState.{Contents}
use Rattle.box_world.proofs.NumberLemmas.{insert_entry-next, AllBelow-push}
use Rattle.box_world.proofs.memory_world.store.MemoryStore.open.Goals as goal

pub invariant_of-self-2 : goal.invariant_of-self-2
invariant_of-self-2 c =
    let same : c.args.number ≡ c.self.inside.next = c.requires ∙ ap (λ (s : Contents). s.next) (sym c.self.view_is) in
    let last = insert_entry-next c.self.inside.next (record {
      mode = c.args.mode;
      text = c.in_ok-opened.opened;
      read =
          0;
    }) c.self.inside.streams.entries c.self.invariant.0.below in (
      record {
        low = omega (arith, c.self.invariant.0.low);
        high = omega (arith, same, c.ranges.number.fits);
        below = rw (c.in_ok-insert.ensures.entries, same, last) (AllBelow-push _ _ _ c.self.invariant.0.below);
      },
      c.self.invariant.1,
    )

pub returns-clause-ok : goal.returns-clause-ok
returns-clause-ok c =
    let same : c.args.number ≡ c.self.inside.next = c.requires ∙ ap (λ (s : Contents). s.next) (sym c.self.view_is) in
    let last = insert_entry-next c.self.inside.next (record {
      mode = c.args.mode;
      text = c.in_ok-opened.opened;
      read =
          0;
    }) c.self.inside.streams.entries c.self.invariant.0.below in
    rw (
      ← c.self.view_is,
      c.in_ok-insert.ensures.entries,
      same,
      last,
      c.make.ensures.files,
      c.make.ensures.fed,
      c.in_ok-name.ensures.items,
      c.bytes.ensures,
      c.in_ok-opened.ensures,
      c.make_room.ensures.same,
      c.make_room-2.ensures.same,
    ) refl
