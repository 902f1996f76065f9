use Rattle.awk_ere.proofs.Seeking.{none_begin}
use Rattle.awk_ere.proofs.table.Matcher.first_start.Goals as goal

pub returns-else-is_later : goal.returns-else-is_later
returns-else-is_later c = none_begin _ _ _ c.requires
