use Rattle.std.proofs.Common.{◌≡◌, ◌+◌, eqb, take, count_by}
use Rattle.awk_tokens.specs.Places.{capped}
use Rattle.awk_sources.proofs.joining.with_lines.Given as goal

abbrev pub invariant-loop-b : goal.invariant-loop-b
invariant-loop-b l = l.total ≡ capped (l.fn.lines + (count_by (λ b. eqb b 10) (take l.b-index l.text) + 1))
