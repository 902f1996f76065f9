use Rattle.std.proofs.Common.{◌≡◌, ◌<◌}
use Rattle.awk_ere.specs.Search.{mark}
use Rattle.awk_ere.specs.declared.search.TheConstants.{NONE}
use Rattle.awk_ere.proofs.Gathering.{IsGathered}
use Rattle.awk_ere.proofs.closure.find_marked.Given as goal

abbrev pub invariant-loop-at : goal.invariant-loop-at
invariant-loop-at l = IsGathered (λ i p. (p ≡ i) × (mark l.starts p < NONE)) l.at l.list.items
