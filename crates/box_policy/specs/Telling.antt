-- Which rules of a kind speak of a subject.
use Rattle.std.specs.Prelude.{ℕ, ◌+◌, Bool, List, [], ◌∷◌, nat_eq, if◌then◌else◌}
use Rattle.box_policy.specs.declared.policy.Kind.{Kind}
use Rattle.box_policy.specs.declared.policy.Rule.{Rule}
use Rattle.box_policy.specs.declared.telling.Told.{Told}
use Rattle.box_policy.specs.Decisions.{kind_number, speaks}

-- each rule of the kind, with its number, and whether it speaks; the rules are numbered from n
abbrev pub told_from : ℕ → List ℕ → List Rule → Kind → List ℕ → Bool → List Told
told_from n base [] kind subject given = []
told_from n base (rule ∷ rules) kind subject given =
    if nat_eq (kind_number rule.kind) (kind_number kind)
    then record { number = n; fits = speaks base rule kind subject given }
    ∷ told_from (n + 1) base rules kind subject given
    else told_from (n + 1) base rules kind subject given
