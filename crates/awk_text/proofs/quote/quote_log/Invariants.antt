use Rattle.std.proofs.Common.{◌≡◌, ◌++◌, drop}
use Rattle.awk_text.specs.Quoted.{quoted}
use Rattle.awk_text.proofs.quote.quote_log.Given as goal

-- what is written and what is left make the whole
abbrev pub invariant-loop-b : goal.invariant-loop-b
invariant-loop-b l = l.out.items ++ quoted (drop l.b-index l.text) ≡ quoted l.text
