use Rattle.awk_ere.proofs.Alone as alone
use Rattle.awk_ere.proofs.laws.one_pattern.Goals as goal

pub returns-clause-reading : goal.returns-clause-reading
returns-clause-reading c = alone.one_reading

pub returns-clause-pattern : goal.returns-clause-pattern
returns-clause-pattern c = alone.one_pattern
