use Rattle.listing_laws.proofs.Standards as laws
use Rattle.listing_laws.proofs.laws.standards_kept.Goals as goal

pub returns : goal.returns
returns c = laws.standards_kept
