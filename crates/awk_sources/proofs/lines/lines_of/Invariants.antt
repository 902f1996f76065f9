use Rattle.std.proofs.Common.{◌≡◌, ◌+◌, ◌≤◌, eqb, take, count_by}
use Rattle.awk_sources.proofs.lines.lines_of.Given as goal

abbrev pub invariant-loop-b : goal.invariant-loop-b
invariant-loop-b l = (l.lines ≡ count_by (λ b. eqb b 10) (take l.b-index l.text) + 1) × (l.lines ≤ l.b-index + 1)
