use Rattle.awk_lowering.proofs.items.when.Goals as goal

pub returns-in-Expr : goal.returns-in-Expr
returns-in-Expr c = rw c.in-Expr.is (c.holds.ensures _ _ c.part.ensures)

pub returns-in-Range : goal.returns-in-Range
returns-in-Range c = rw c.in-Range.is (c.range.ensures _ _ _ c.part-x.ensures c.part-in-Range.ensures)
