use Rattle.box_advice.proofs.MetLemmas.{none_met}
use Rattle.box_advice.proofs.denials.Gathered.new.Goals as goal

pub returns-clause-met : goal.returns-clause-met
returns-clause-met c = none_met c.new.result.items c.new-2.result c.new-2.ensures.empty c.new.ensures.items
