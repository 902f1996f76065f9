use Rattle.std.proofs.Common.{sym, ◌∙◌, ap}
use Rattle.box_world.proofs.TextLemmas.{named, with_text-named}
use Rattle.box_world.proofs.memory_world.texts.Texts.put.Goals as goal

pub returns-clause-ok : goal.returns-clause-ok
returns-clause-ok g c = rw (← c.self.view_is)
    (ap (named (λ k. k.items)) c.in_ok-insert.ensures.entries
    ∙ sym (with_text-named (λ k. k.items) c.args.text c.args.value c.self.inside.table.entries))
