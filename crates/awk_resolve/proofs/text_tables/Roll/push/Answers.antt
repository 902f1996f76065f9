use Rattle.std.proofs.Common.{◌∙◌, sym}
use Rattle.awk_resolve.proofs.Rolls.{pushed_last}
use Rattle.awk_resolve.proofs.text_tables.Roll.push.Goals as goal

pub returns-in-None-clause-ok : goal.returns-in-None-clause-ok
returns-in-None-clause-ok c = pushed_last c.args.text c.args.self.now _ _
    (rw c.bytes.ensures at (sym c.position.ensures ∙ c.in-None.is)) c.append.ensures.ok
