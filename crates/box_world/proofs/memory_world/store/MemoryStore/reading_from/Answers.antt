use Rattle.std.proofs.Common.{◌≡◌, ◌==◌, Some, sym}
use Rattle.std.specs.Map.{lookup}
use Rattle.box_world.proofs.NumberLemmas.{is_at-number}
use Rattle.box_world.proofs.memory_world.store.MemoryStore.reading_from.Goals as goal

pub returns-in-Some-clause-reply : goal.returns-in-Some-clause-reply
returns-in-Some-clause-reply c =
    let found : lookup (λ k. k == c.args.number) c.args.self.now.streams ≡ Some c.in-Some.stream.now =
    rw (← c.self.view_is, ← is_at-number c.args.number) (sym c.in-Some.ensures.value) in
    rw found c.reading_of.ensures.reply
