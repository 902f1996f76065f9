use Rattle.awk_ere.proofs.Seeking.{sought_later}
use Rattle.awk_ere.proofs.table.Matcher.find_later.Goals as goal

pub returns-in-Left : goal.returns-in-Left
returns-in-Left c = sought_later _ _ _ _ _ c.in-Left.ensures c.find_on.ensures
