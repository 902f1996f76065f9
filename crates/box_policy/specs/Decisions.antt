-- What a policy decides.
use Rattle.std.specs.Prelude.{ℕ, ◌+◌, Bool, true, false, not, ◌&&◌, ◌||◌, List, [], ◌∷◌, nat_eq, if◌then◌else◌}
use Rattle.box_policy.specs.declared.policy.Kind.{Kind}
use Rattle.box_policy.specs.declared.policy.Kind.TheVariants.{Read, Write, Append, Run, Env, Assign}
use Rattle.box_policy.specs.declared.policy.Effect.{Effect}
use Rattle.box_policy.specs.declared.policy.Effect.TheVariants.{Allow as AllowIt, Deny as DenyIt}
use Rattle.box_policy.specs.declared.policy.Decision.{Decision}
use Rattle.box_policy.specs.declared.policy.Decision.TheVariants.{Allow, Deny, NoRule}
use Rattle.box_policy.specs.declared.policy.Rule.{Rule}
use Rattle.box_policy.specs.declared.policy.Outlook.{Outlook}
use Rattle.box_policy.specs.declared.policy.Outlook.TheVariants.{Always, Never, Sometimes}
use Rattle.box_policy.specs.Counts.{is_limited, is_used_up}
use Rattle.box_policy.specs.Fits.{pattern_fits}
use Rattle.box_policy.specs.Rulebook.{Rulebook}

-- one number for each kind
abbrev pub kind_number : Kind → ℕ
kind_number Read = 0
kind_number Write = 1
kind_number Append = 2
kind_number Run = 3
kind_number Env = 4
kind_number Assign = 5

-- the rule is of the kind, its `from` holds and its pattern fits the subject
abbrev pub speaks : List ℕ → Rule → Kind → List ℕ → Bool → Bool
speaks base rule kind subject given =
    nat_eq (kind_number rule.kind) (kind_number kind) && (given || not rule.only_given)
    && pattern_fits base kind rule.pattern subject

-- what a rule of this effect and number decides
abbrev pub decided : Effect → ℕ → Decision
decided (AllowIt quota) n = Allow n
decided DenyIt n = Deny n

-- of the rules that are looked at, the first one that speaks decides; the rules are numbered from n
abbrev pub decision_from : (Rule → Bool) → ℕ → List ℕ → List Rule → Kind → List ℕ → Bool → Decision
decision_from looked n base [] kind subject given = NoRule
decision_from looked n base (rule ∷ rules) kind subject given =
    if looked rule && speaks base rule kind subject given then decided rule.effect n
    else decision_from looked (n + 1) base rules kind subject given

-- ---- what is decided now

-- a rule that is used up is not looked at
abbrev pub is_left : Rule → Bool
is_left rule = not (is_used_up rule)

-- the first rule of the book has the number 1
abbrev pub decision : Rulebook → Kind → List ℕ → Bool → Decision
decision book kind subject given = decision_from is_left 1 book.base book.rules kind subject given

-- ---- what is decided however often rules have allowed

abbrev pub is_lasting : Rule → Bool
is_lasting rule = not (is_limited rule)

abbrev pub is_any : Rule → Bool
is_any rule = true

-- By what the first rule of all that speaks does, and what the first one without a limit does. Always: that one allows,
-- and so does each before it, since only rules that allow have limits. Never: it does not, and no rule with a limit
-- speaks before it, which would allow. Sometimes: one does.
abbrev pub outlook_by : (first lasting : Decision) → Outlook
outlook_by first (Allow n) = Always
outlook_by (Allow n) (Deny m) = Sometimes
outlook_by (Allow n) NoRule = Sometimes
outlook_by (Deny n) (Deny m) = Never
outlook_by (Deny n) NoRule = Never
outlook_by NoRule (Deny m) = Never
outlook_by NoRule NoRule = Never

abbrev pub outlook : Rulebook → Kind → List ℕ → Bool → Outlook
outlook book kind subject given =
    outlook_by (decision_from is_any 1 book.base book.rules kind subject given)
    (decision_from is_lasting 1 book.base book.rules kind subject given)
