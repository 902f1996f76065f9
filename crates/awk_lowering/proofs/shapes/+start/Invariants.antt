use Rattle.awk_lowering.proofs.shapes.+start.Given as goal

abbrev pub decreases-start : goal.decreases-start
decreases-start l = l.level
