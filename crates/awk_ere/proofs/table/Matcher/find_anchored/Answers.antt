use Rattle.std.proofs.Common.{arith}
use Rattle.awk_ere.proofs.Seeking.{none_at_start, none_later}
use Rattle.awk_ere.proofs.table.Matcher.find_anchored.Goals as goal

pub returns-in-Some-None : goal.returns-in-Some-None
returns-in-Some-None c = none_at_start c.args.self.now c.requires.anchored _ _
    (rw c.in-Some-None.field-0-is at c.in-Some-None.ensures)

pub returns-then-from-gt0 : goal.returns-then-from-gt0
returns-then-from-gt0 c = none_later c.args.self.now c.requires.anchored _ _ (omega arith)
