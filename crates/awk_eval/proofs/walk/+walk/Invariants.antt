use Rattle.awk_eval.proofs.walk.+walk.Given as goal

abbrev pub decreases-value : goal.decreases-value
decreases-value g l = l.left

abbrev pub decreases-statement : goal.decreases-statement
decreases-statement g l = l.left
