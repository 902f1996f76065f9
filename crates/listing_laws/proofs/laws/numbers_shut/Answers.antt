use Rattle.listing_laws.proofs.Turns as laws
use Rattle.listing_laws.proofs.laws.numbers_shut.Goals as goal

pub returns : goal.returns
returns c = laws.numbers_shut
