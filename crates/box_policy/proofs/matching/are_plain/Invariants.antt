use Rattle.std.proofs.Common.{◌≡◌, length}
use Rattle.std.specs.List.{list_all}
use Rattle.box_policy.specs.declared.tokens.Sort.TheVariants.{Component}
use Rattle.box_policy.specs.Paths.{names}
use Rattle.box_policy.specs.Plain.{is_plain_pattern}
use Rattle.box_policy.proofs.matching.are_plain.Given as goal

abbrev pub invariant-loop-piece : goal.invariant-loop-piece
invariant-loop-piece l = list_all (is_plain_pattern Component) (names l.rest) ≡ list_all (is_plain_pattern Component)
    (names l.pattern)

abbrev pub decreases-loop-piece : goal.decreases-loop-piece
decreases-loop-piece l = length l.rest
