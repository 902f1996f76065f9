use Rattle.awkbox.proofs.Foretold as laws
use Rattle.awkbox.proofs.laws.sites_cover.Goals as goal

pub returns : goal.returns
returns c = laws.text_covered c.one_program.ensures c.sites_cover.ensures
