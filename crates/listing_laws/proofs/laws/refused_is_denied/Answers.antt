use Rattle.listing_laws.proofs.Foretold as laws
use Rattle.listing_laws.proofs.laws.refused_is_denied.Goals as goal

pub returns : goal.returns
returns c = laws.script_denied
