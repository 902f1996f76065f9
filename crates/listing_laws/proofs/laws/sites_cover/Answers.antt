use Rattle.listing_laws.proofs.Foretold as laws
use Rattle.listing_laws.proofs.laws.sites_cover.Goals as goal

pub returns : goal.returns
returns c = laws.script_covered
