use Rattle.std.proofs.Common.{◌∙◌, sym}
use Rattle.awk_resolve.proofs.Apart.{sound}
use Rattle.awk_resolve.proofs.variables.variables.Goals as goal

pub returns-in-None-clause-sound : goal.returns-in-None-clause-sound
returns-in-None-clause-sound c = sound c.args.parts.now _ (rw c.in_ok-roll.ensures at c.in_ok-add_parts.ensures)
    (sym c.position.ensures ∙ c.in-None.is)
