use Rattle.awk_ere.proofs.Seeking.{starts_first}
use Rattle.awk_ere.proofs.table.Matcher.has_anchored.Goals as goal

pub returns : goal.returns
returns c = starts_first c.args.self.now c.requires _ _ c.is_start.ensures
