use Rattle.std.proofs.Common.{◌≡◌, ◌++◌, drop, false}
use Rattle.awk_tokens.specs.Tokens.{unslashed}
use Rattle.awk_tokens.proofs.reading.unslashed.Given as goal

abbrev pub invariant-loop-b : goal.invariant-loop-b
invariant-loop-b l = l.text.items ++ unslashed l.escaped (drop l.b-index l.body) ≡ unslashed false l.body
