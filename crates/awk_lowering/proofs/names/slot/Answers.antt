use Rattle.std.proofs.Common.{◌∙◌, sym}
use Rattle.awk_resolve.proofs.Rolls.{stands_small}
use Rattle.awk_lowering.proofs.names.slot.Goals as goal

pub returns-in-Some : goal.returns-in-Some
returns-in-Some c = stands_small c.args.text.now c.args.variables.now c.in-Some.n c.small.result (sym c.position.ensures
    ∙ c.in-Some.is) c.small.ensures
