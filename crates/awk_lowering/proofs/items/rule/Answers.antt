use Rattle.awk_lowering.proofs.items.rule.Goals as goal

pub returns : goal.returns
returns c = c.rule_of.ensures _ _ _ c.when-when.ensures c.action.ensures
