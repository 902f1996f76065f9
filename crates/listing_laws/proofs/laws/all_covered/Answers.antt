use Rattle.listing_laws.proofs.Coverage as laws
use Rattle.listing_laws.proofs.laws.all_covered.Goals as goal

pub returns : goal.returns
returns c = laws.all_covered
