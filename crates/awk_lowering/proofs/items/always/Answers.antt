use Rattle.std.proofs.Common.{refl}
use Rattle.awk_lowering.proofs.items.always.Goals as goal

pub returns : goal.returns
returns c = c.rule_of.ensures _ _ _ refl c.action.ensures
