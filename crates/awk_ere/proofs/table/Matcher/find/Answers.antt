use Rattle.std.proofs.Common.{subst, arith}
use Rattle.awk_ere.specs.Matcher.{NoneTo}
use Rattle.awk_ere.proofs.Seeking.{none_more, found_at, sought_later}
use Rattle.awk_ere.proofs.table.Matcher.find.Goals as goal

pub returns-then-start-text : goal.returns-then-start-text
returns-then-start-text c = sought_later _ _ _ _ _ (subst (NoneTo c.args.self.now c.args.text.now c.args.from)
    c.if-start-text.true c.first_start-start.ensures) c.find_at_end.ensures

pub returns-in-Some-Some : goal.returns-in-Some-Some
returns-in-Some-Some c = found_at _ _ _ _ _ (rw c.in-Some-Some.field-0-is at c.in-Some-Some.ensures)
    c.first_start-start.ensures

pub returns-in-Some-None : goal.returns-in-Some-None
returns-in-Some-None c =
    let first = c.first_start-start.ensures in
    sought_later _ _ _ _ _ (none_more _ _ _ _ (omega (arith, first.within, c.if-start-text.false))
    (rw c.in-Some-None.field-0-is at c.in-Some-None.ensures) first) c.find_later.ensures
