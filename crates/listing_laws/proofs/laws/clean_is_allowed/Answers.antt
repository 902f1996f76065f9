use Rattle.listing_laws.proofs.Foretold as laws
use Rattle.listing_laws.proofs.laws.clean_is_allowed.Goals as goal

pub returns : goal.returns
returns c = laws.script_allowed
