use Rattle.std.proofs.Common.{◌∙◌, sym}
use Rattle.awk_resolve.proofs.Growing.{is_own, outside_added}
use Rattle.awk_resolve.proofs.variables.add_name.Goals as goal

pub returns-in-Some : goal.returns-in-Some
returns-in-Some c = sym (is_own c.args.parameters.now c.args.out.now c.args.name.now _
    (rw c.bytes.ensures at (sym c.position.ensures ∙ c.in-Some.is)))

pub returns-in-None : goal.returns-in-None
returns-in-None c = outside_added c.args.parameters.now c.args.out.now _ c.args.name.now _
    (rw c.bytes.ensures at (sym c.position.ensures ∙ c.in-None.is)) c.add_copy.ensures
