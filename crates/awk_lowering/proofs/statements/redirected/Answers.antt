use Rattle.awk_lowering.proofs.statements.redirected.Goals as goal

pub returns-in-Some : goal.returns-in-Some
returns-in-Some c = rw c.in-Some.is (c.redirection_of.ensures _ _ c.text-target.ensures)
