use Rattle.listing_laws.proofs.OneText as laws
use Rattle.listing_laws.proofs.texts.one_policy.Goals as goal

pub returns : goal.returns
returns c = laws.one_policy
