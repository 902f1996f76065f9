use Rattle.std.proofs.Common.{◌≡◌, length}
use Rattle.std.specs.Prelude.{codes}
use Rattle.std.specs.Str.{bytes_eq}
use Rattle.std.specs.List.{list_any}
use Rattle.box_policy.specs.Paths.{names}
use Rattle.box_policy.proofs.names.goes_up.Given as goal

-- what was passed over does not go up
abbrev pub invariant-loop-name : goal.invariant-loop-name
invariant-loop-name l = list_any (λ name. bytes_eq name (codes "..")) (names l.rest)
    ≡ list_any (λ name. bytes_eq name (codes "..")) (names l.text)

abbrev pub decreases-loop-name : goal.decreases-loop-name
decreases-loop-name l = length (names l.rest)
