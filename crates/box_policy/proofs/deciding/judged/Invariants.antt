use Rattle.std.proofs.Common.{◌≡◌, ◌+◌, ◌-◌, ℕ, List, length, drop}
use Rattle.box_policy.specs.declared.policy.Kind.{Kind}
use Rattle.box_policy.specs.Decisions.{decision_from}
use Rattle.box_policy.specs.Targets.{IsTarget, sees}
use Rattle.box_policy.proofs.JudgedLemmas.{IsAhead}
use Rattle.box_policy.proofs.deciding.judged.Given as goal

-- what the rules that are not passed decide is what all decide
abbrev pub invariant-loop-number : goal.invariant-loop-number
invariant-loop-number l = record {
  ahead : IsAhead l.target l.rules l.ahead l.passed;
  rest : (base : List ℕ) (kind : Kind) (subject : List ℕ) → IsTarget base kind subject l.target
      → decision_from (sees l.sight) (l.passed + 1) base (drop l.passed l.rules) kind subject l.given ≡ decision_from
      (sees l.sight) 1 base l.rules kind subject l.given;
}

abbrev pub decreases-loop-number : goal.decreases-loop-number
decreases-loop-number l = length l.rules - l.passed
