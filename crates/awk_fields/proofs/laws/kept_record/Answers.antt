use Rattle.awk_fields.proofs.Alone as alone
use Rattle.awk_fields.proofs.laws.kept_record.Goals as goal

pub returns-clause-again : goal.returns-clause-again
returns-clause-again c = alone.kept_again

pub returns-clause-fields : goal.returns-clause-fields
returns-clause-fields c = alone.kept_fields
