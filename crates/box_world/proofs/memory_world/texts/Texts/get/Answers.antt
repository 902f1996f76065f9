use Rattle.std.proofs.Common.{sym, ◌∙◌}
use Rattle.box_world.proofs.TextLemmas.{lookup-named}
use Rattle.box_world.proofs.memory_world.texts.Texts.get.Goals as goal

pub returns : goal.returns
returns g c = rw (← c.self.view_is) (c.get.ensures.value
    ∙ sym (lookup-named (λ k. k.items) c.args.text.now c.self.inside.table.entries))
