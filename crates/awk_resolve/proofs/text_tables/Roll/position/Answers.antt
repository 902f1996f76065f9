use Rattle.std.proofs.Common.{sym, ◌∙◌}
use Rattle.awk_resolve.proofs.Rolls.{position_named}
use Rattle.awk_resolve.proofs.text_tables.Roll.position.Goals as goal

pub returns : goal.returns
returns c = rw (← c.self.view_is) (c.get_index_of.ensures.index
    ∙ sym (position_named (λ t. t.items) c.args.text.now c.self.inside.texts.keys))
