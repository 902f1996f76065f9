use Rattle.std.proofs.Common.{◌≡◌, ◌++◌, drop}
use Rattle.awk_resolve.proofs.statements.names.Given as goal

abbrev pub invariant-loop-name : goal.invariant-loop-name
invariant-loop-name l = l.names ≡ l.copy ++ drop l.name-index l.names
