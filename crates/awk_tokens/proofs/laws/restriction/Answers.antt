use Rattle.awk_tokens.proofs.Restriction.{restricts}
use Rattle.awk_tokens.proofs.laws.restriction.Goals as goal

pub returns : goal.returns
returns c = restricts
