use Rattle.awk_ere.proofs.Alone as alone
use Rattle.awk_ere.proofs.laws.one_match.Goals as goal

pub returns-clause-best : goal.returns-clause-best
returns-clause-best c = alone.one_match

pub returns-clause-found : goal.returns-clause-found
returns-clause-found c = alone.one_finding

pub returns-clause-tested : goal.returns-clause-tested
returns-clause-tested c = alone.one_test
