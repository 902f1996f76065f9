use Rattle.awk_fields.proofs.Alone as alone
use Rattle.awk_fields.proofs.laws.one_list.Goals as goal

pub returns-clause-texts : goal.returns-clause-texts
returns-clause-texts c = alone.one_list

pub returns-clause-fields : goal.returns-clause-fields
returns-clause-fields c = alone.one_row
