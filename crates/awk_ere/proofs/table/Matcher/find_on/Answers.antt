use Rattle.awk_ere.proofs.Seeking.{nowhere}
use Rattle.awk_ere.proofs.table.Matcher.find_on.Goals as goal

pub returns-in-Some-false : goal.returns-in-Some-false
returns-in-Some-false c = nowhere c.args.self.now _ _ _ c.in-Some-false.field-0-test c.in-Some-false.ensures
