use Rattle.awkbox.proofs.TwoWorlds as laws
use Rattle.awkbox.proofs.laws.two_worlds.Goals as goal

pub returns : goal.returns
returns c = laws.two_worlds c.one_run.ensures.equal
