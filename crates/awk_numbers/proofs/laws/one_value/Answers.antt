use Rattle.awk_numbers.proofs.Canonical.{one_whole, one_double}
use Rattle.awk_numbers.proofs.laws.one_value.Goals as goal

pub returns-clause-whole : goal.returns-clause-whole
returns-clause-whole c = one_whole

pub returns-clause-double : goal.returns-clause-double
returns-clause-double c = one_double
