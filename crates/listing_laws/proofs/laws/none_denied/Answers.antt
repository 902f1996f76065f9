use Rattle.listing_laws.proofs.Refusals as laws
use Rattle.listing_laws.proofs.laws.none_denied.Goals as goal

pub returns : goal.returns
returns c = laws.none_denied
