use Rattle.std.proofs.Common.{sym, ◌∙◌, ap}
use Rattle.awk_resolve.proofs.TableLemmas.{named, with_text_named}
use Rattle.awk_resolve.proofs.text_tables.TextTable.put.Goals as goal

pub returns-clause-ok : goal.returns-clause-ok
returns-clause-ok g c = rw (← c.self.view_is, ← c.in_ok-bytes.ensures)
    (ap (named (λ k. k.items)) c.in_ok-insert.ensures.entries
    ∙ sym (with_text_named (λ k. k.items) c.in_ok-bytes.bytes c.args.value c.self.inside.entries.entries))
