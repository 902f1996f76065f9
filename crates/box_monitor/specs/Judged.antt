-- What was decided on, and what is kept of it.
use Rattle.std.specs.Prelude.{◌≡◌, ℕ, Bool, true, false, List, ◌∷◌, Contains}
use Rattle.box_policy.specs.Decisions.{decision, kind_number}
use Rattle.box_policy.specs.Rulebook.{Rulebook}
use Rattle.box_policy.specs.declared.policy.Decision.{Decision}
use Rattle.box_policy.specs.declared.policy.Kind.{Kind}
use Rattle.box_monitor.specs.declared.judge.KeptQuestion.{KeptQuestion}

-- one number for each
abbrev pub given_number : Bool → ℕ
given_number false = 0
given_number true = 1

-- all that a decision depends on beside the policy, as one list
abbrev pub spelled : Kind → Bool → List ℕ → List ℕ
spelled kind given text = kind_number kind ∷ given_number given ∷ text

-- each decision that is kept is the policy's own
abbrev pub AreDecided : Rulebook → List (KeptQuestion × Decision) → Type 0
AreDecided book entries =
    (e : KeptQuestion × Decision) → Contains entries e → e.1 ≡ decision book e.0.kind e.0.text.items e.0.given
