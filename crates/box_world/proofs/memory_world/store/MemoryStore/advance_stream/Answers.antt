use Rattle.std.proofs.Common.{refl, ap, sym, ◌∙◌}
use Rattle.std.specs.Option.{option_copied_mut}
use Rattle.box_world.proofs.NumberLemmas.{is_at-number}
use Rattle.box_world.proofs.memory_world.store.MemoryStore.advance_stream.Goals as goal
use Rattle.box_world.proofs.memory_world.store.MemoryStore.advance_stream.Goals.{in-Some, in-None}

pub returns : goal.returns
returns c = elim c.match-get_mut.branch [
  | in-Some w ↦
      let found = sym c.get_mut.ensures.value ∙ ap option_copied_mut w.in-Some.is in
      rw (
        w.self-inside-is,
        (c.get_mut.follows.holds w.advance.new.self).0,
        w.advance.ensures,
        ← c.self.view_is,
        ← is_at-number c.args.number,
        found,
      ) refl
  | in-None w ↦
      let absent = sym c.get_mut.ensures.value ∙ ap option_copied_mut w.in-None.is in
      rw (
        w.self-inside-is,
        c.get_mut.follows.holds-at-none,
        ← c.self.view_is,
        ← is_at-number c.args.number,
        absent,
      ) refl
]
