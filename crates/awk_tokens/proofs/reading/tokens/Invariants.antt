use Rattle.std.proofs.Common.{◌-◌, length}
use Rattle.awk_tokens.proofs.StepLemmas.{At}
use Rattle.awk_tokens.proofs.reading.tokens.Given as goal

abbrev pub invariant-loop-start : goal.invariant-loop-start
invariant-loop-start l = At l.numbers l.script l.start l.place l.operand l.found.items

abbrev pub decreases-loop-start : goal.decreases-loop-start
decreases-loop-start l = length l.script - l.start
