use Rattle.box_policy.proofs.RebasedLemmas as laws
use Rattle.box_policy.proofs.laws.base_is_free.Goals as goal

pub returns : goal.returns
returns c = laws.base_is_free
