use Rattle.awkbox.proofs.Foretold as laws
use Rattle.awkbox.proofs.laws.clean_is_allowed.Goals as goal

pub returns : goal.returns
returns c = laws.text_allowed c.one_policy.ensures c.one_program.ensures c.clean_is_allowed.ensures
