use Rattle.std.proofs.Common.{◌≡◌, take}
use Rattle.awk_tokens.specs.Scan.{saturated}
use Rattle.awk_tokens.specs.Tokens.{value_of}
use Rattle.awk_tokens.proofs.scan.value_of.Given as goal

abbrev pub invariant-loop-b : goal.invariant-loop-b
invariant-loop-b l = l.value ≡ saturated (value_of (take l.b-index l.digits))
