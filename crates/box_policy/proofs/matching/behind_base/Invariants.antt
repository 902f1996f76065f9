use Rattle.std.proofs.Common.{◌≡◌, ◌++◌, ℕ, List, length, map}
use Rattle.box_policy.specs.Division.{Symbol, fits}
use Rattle.box_policy.specs.NamesLeft.{names_left}
use Rattle.box_policy.specs.Paths.{names}
use Rattle.box_policy.specs.Patterns.{base_symbol}
use Rattle.box_policy.proofs.matching.behind_base.Given as goal

-- what is left of the base has to be found at what is left of the subject
abbrev pub invariant-loop-piece : goal.invariant-loop-piece
invariant-loop-piece l =
    (symbols : List (Symbol (List ℕ))) → fits (map base_symbol (names l.fn.base) ++ symbols) (names_left l.fn.subject)
    ≡ fits (map base_symbol (names l.rest) ++ symbols) (names_left l.subject)

abbrev pub decreases-loop-piece : goal.decreases-loop-piece
decreases-loop-piece l = length (names l.rest)
