use Rattle.awkbox.proofs.Foretold as laws
use Rattle.awkbox.proofs.laws.refused_is_denied.Goals as goal

pub returns : goal.returns
returns c = laws.text_denied c.one_policy.ensures c.refused_is_denied.ensures
