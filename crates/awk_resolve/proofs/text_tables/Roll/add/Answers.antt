use Rattle.std.proofs.Common.{◌∙◌, sym}
use Rattle.awk_resolve.proofs.Rolls.{added_found}
use Rattle.awk_resolve.proofs.text_tables.Roll.add.Goals as goal

pub returns-in-Some-clause-ok : goal.returns-in-Some-clause-ok
returns-in-Some-clause-ok c =
    sym (added_found c.args.text c.args.self.now _ (rw c.bytes.ensures at (sym c.position.ensures ∙ c.in-Some.is)))
