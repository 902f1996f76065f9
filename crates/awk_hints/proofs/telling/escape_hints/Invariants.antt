use Rattle.std.proofs.Common.{◌≡◌, true}
use Rattle.std.specs.List.{All}
use Rattle.awk_hints.specs.Causes.{is_of_pattern}
use Rattle.awk_hints.proofs.telling.escape_hints.Given as goal

abbrev pub invariant-loop-b : goal.invariant-loop-b
invariant-loop-b l = All (λ kind. is_of_pattern kind ≡ true) l.kinds.items
