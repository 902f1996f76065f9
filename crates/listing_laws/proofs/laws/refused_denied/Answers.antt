use Rattle.listing_laws.proofs.Refusals as laws
use Rattle.listing_laws.proofs.laws.refused_denied.Goals as goal

pub returns : goal.returns
returns c = laws.refused_denied
