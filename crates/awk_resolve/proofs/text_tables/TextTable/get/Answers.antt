use Rattle.std.proofs.Common.{sym, ◌∙◌}
use Rattle.awk_resolve.proofs.TableLemmas.{lookup_named}
use Rattle.awk_resolve.proofs.text_tables.TextTable.get.Goals as goal

pub returns : goal.returns
returns g c = rw (← c.self.view_is) (c.get.ensures.value
    ∙ sym (lookup_named (λ k. k.items) c.args.text.now c.self.inside.entries.entries))
