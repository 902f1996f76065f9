use Rattle.awk_tree.specs.Looks.{skip}
use Rattle.std.proofs.Common.{◌≡◌, length}
use Rattle.awk_expressions.proofs.tokens.behind_lines.Given as goal

abbrev pub invariant-loop-more : goal.invariant-loop-more
invariant-loop-more l = skip l.rest ≡ skip l.initial.rest

abbrev pub decreases-loop-more : goal.decreases-loop-more
decreases-loop-more l = length l.rest
