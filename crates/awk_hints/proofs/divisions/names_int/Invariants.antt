use Rattle.std.proofs.Common.{◌≡◌, drop}
use Rattle.awk_hints.specs.Causes.{names_int}
use Rattle.awk_hints.proofs.divisions.names_int.Given as goal

-- none of those before is the word
abbrev pub invariant-loop-token : goal.invariant-loop-token
invariant-loop-token l = names_int (drop l.token-index l.tokens) ≡ names_int l.tokens
