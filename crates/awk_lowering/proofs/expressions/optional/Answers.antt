use Rattle.awk_lowering.proofs.expressions.optional.Goals as goal

pub returns-in-Some : goal.returns-in-Some
returns-in-Some c = rw c.in-Some.is (c.given.ensures _ _ c.part.ensures)
