use Rattle.std.proofs.Common.{◌∙◌, ap, map}
use Rattle.awk_resolve.proofs.Rolls.{added_named}
use Rattle.awk_resolve.proofs.text_tables.Roll.append.Goals as goal

pub returns-clause-ok : goal.returns-clause-ok
returns-clause-ok c = rw (← c.self.view_is, ← c.in_ok-bytes.ensures)
    (ap (map (λ t. t.items)) c.in_ok-insert.ensures.keys ∙ added_named (λ t. t.items) c.in_ok-bytes.bytes
    c.self.inside.texts.keys)
