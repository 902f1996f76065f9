use Rattle.std.proofs.Common.{sym, subst}
use Rattle.awk_ere.specs.Ends.{IsFarthest}
use Rattle.awk_ere.proofs.Ending.{farthest_more}
use Rattle.awk_ere.proofs.ends.Backwards.add_end.Goals as goal

pub returns-clause-ends : goal.returns-clause-ends
returns-clause-ends c = λ _.
    let sets = c.args.self.now.sets.now in
    let program = c.args.self.now.program.now in
    let s = c.args.self.now.text.now in
    let row = c.find_row.ensures.row c.if-not-find_row.false in
    farthest_more sets program s c.args.entry c.args.left c.row_at.result _ _ c.in_ok-push.ensures.items
    c.requires.count (subst (IsFarthest sets program s c.args.entry _) (sym c.row_at.ensures) (row c.args.entry))
    c.requires.ends
