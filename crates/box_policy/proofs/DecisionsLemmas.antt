-- What no pattern can fit is decided by no rule.
use Rattle.std.proofs.Common.{◌≡◌, ◌+◌, ℕ, Bool, true, false, ◌&&◌, ◌||◌, not, List, [], ◌∷◌, refl, ap}
use Rattle.std.specs.Prelude.{nat_eq}
use Rattle.box_policy.specs.declared.policy.Decision.{Decision}
use Rattle.box_policy.specs.declared.policy.Decision.TheVariants.{NoRule}
use Rattle.box_policy.specs.declared.policy.Kind.{Kind}
use Rattle.box_policy.specs.declared.policy.Kind.TheVariants.{Read, Write, Append, Run, Env, Assign}
use Rattle.box_policy.specs.declared.policy.Rule.{Rule}
use Rattle.box_policy.specs.Decisions.{decision_from, kind_number}
use Rattle.box_policy.specs.Fits.{is_readable, pattern_fits}
use Rattle.std.proofs.lemmas.Bool.{true≢false}

unreadable : (base : List ℕ) (kind : Kind) (pattern subject : List ℕ) → is_readable base kind subject ≡ false
    → pattern_fits base kind pattern subject ≡ false
unreadable base Read pattern subject h = rw h
unreadable base Write pattern subject h = rw h
unreadable base Append pattern subject h = rw h
unreadable base Run pattern subject h = rw h
unreadable base Env pattern subject h = absurd (true≢false h)
unreadable base Assign pattern subject h = absurd (true≢false h)

both_false : (look a b : Bool) → (look && ((a && b) && false)) ≡ false
both_false true true true = refl
both_false true true false = refl
both_false true false b = refl
both_false false a b = refl

pub decision_from-unreadable : (looked : Rule → Bool) (n : ℕ) (base : List ℕ) (rules : List Rule) (kind : Kind)
    (subject : List ℕ) (given : Bool) → is_readable base kind subject ≡ false
    → decision_from looked n base rules kind subject given ≡ NoRule
decision_from-unreadable looked n base [] kind subject given h = refl
decision_from-unreadable looked n base (rule ∷ rules) kind subject given h =
    rw (
      unreadable base kind rule.pattern subject h,
      both_false (looked rule) (nat_eq (kind_number rule.kind) (kind_number kind)) (given || not rule.only_given),
    )
    (decision_from-unreadable looked (n + 1) base rules kind subject given h)
