-- What an outlook says of the decisions, however often rules have allowed.
use Rattle.std.proofs.Common.{◌≡◌, ◌∙◌, ℕ, ◌+◌, Bool, true, false, ◌&&◌, not, cond, List, [], ◌∷◌, map, Some, None}
use Rattle.std.proofs.Common.{Option, sym, ap, refl}
use Rattle.std.specs.Prelude.{is_some, nat_le}
use Rattle.std.proofs.lemmas.Bool.{true≢false}
use Rattle.box_policy.specs.declared.policy.Decision.{Decision}
use Rattle.box_policy.specs.declared.policy.Decision.TheVariants as d
use Rattle.box_policy.specs.declared.policy.Effect.{Effect}
use Rattle.box_policy.specs.declared.policy.Effect.TheVariants.{Allow, Deny}
use Rattle.box_policy.specs.declared.policy.Kind.{Kind}
use Rattle.box_policy.specs.declared.policy.Outlook.TheVariants.{Always, Never, Sometimes}
use Rattle.box_policy.specs.declared.policy.Rule.{Rule}
use Rattle.box_policy.specs.Counts.{cleared, effect_cleared, is_limited, is_limited_by, is_spent, is_used_up}
use Rattle.box_policy.specs.Counts.{is_used_up_by, noted, rule_cleared}
use Rattle.box_policy.specs.Decisions.{decided, decision, decision_from, is_any, is_lasting, is_left, outlook}
use Rattle.box_policy.specs.Decisions.{outlook_by, speaks}
use Rattle.box_policy.specs.Rulebook.{Rulebook}
use Rattle.box_policy.proofs.CountsLemmas.{noted-same}

abbrev pub allows : Decision → Bool
allows (d.Allow n) = true
allows (d.Deny n) = false
allows d.NoRule = false

-- ---- an outlook does not look at counts

decided-cleared : (e : Effect) (n : ℕ) → decided (effect_cleared e) n ≡ decided e n
decided-cleared (Allow quota) n = refl
decided-cleared Deny n = refl

limited-cleared : (e : Effect) → is_limited_by (effect_cleared e) ≡ is_limited_by e
limited-cleared Deny = refl
limited-cleared (Allow None) = refl
limited-cleared (Allow (Some q)) = refl

module _ (base : List ℕ) (kind : Kind) (subject : List ℕ) (given : Bool) where
  cleared_decides : (looked : Rule → Bool) → ((rule : Rule) → looked (rule_cleared rule) ≡ looked rule)
      → (n : ℕ) (rules : List Rule)
      → decision_from looked n base (map rule_cleared rules) kind subject given ≡ decision_from looked n base rules kind
      subject given
  cleared_decides looked same n [] = refl
  cleared_decides looked same n (rule ∷ rules) =
      λ i. cond (same rule i && speaks base rule kind subject given) (decided-cleared rule.effect n i)
      (cleared_decides looked same (n + 1) rules i)

outlook-cleared : (book : Rulebook) (kind : Kind) (subject : List ℕ) (given : Bool)
    → outlook (cleared book) kind subject given ≡ outlook book kind subject given
outlook-cleared book kind subject given =
    λ i. outlook_by (cleared_decides book.base kind subject given is_any (λ rule. refl) 1 book.rules i)
    (cleared_decides book.base kind subject given is_lasting (λ rule. ap not (limited-cleared rule.effect)) 1 book.rules
    i)

pub outlook-same : (book other : Rulebook) (kind : Kind) (subject : List ℕ) (given : Bool)
    → cleared book ≡ cleared other
    → outlook book kind subject given ≡ outlook other kind subject given
outlook-same book other kind subject given same =
    sym (outlook-cleared book kind subject given) ∙ (ap (λ b. outlook b kind subject given) same
    ∙ outlook-cleared other kind subject given)

pub noted-cleared : (n : ℕ) (book : Rulebook) → cleared (noted n book) ≡ cleared book
noted-cleared n book = ap (λ rules. record book { rules = rules }) (noted-same n book.rules)

-- ---- what is always allowed is allowed now

always_left : (b s : Bool) (n : ℕ) (later : Decision) → allows later ≡ true → allows (cond (b && s) (d.Allow n) later)
    ≡ true
always_left true true n later h = refl
always_left true false n later h = h
always_left false s n later h = h

always_step : (e : Effect) (s : Bool) (n : ℕ) (lasting now : Decision) → (allows lasting ≡ true → allows now ≡ true)
    → allows (cond (not (is_limited_by e) && s) (decided e n) lasting) ≡ true
    → allows (cond (not (is_used_up_by e) && s) (decided e n) now) ≡ true
always_step Deny true n lasting now onward h = h
always_step Deny false n lasting now onward h = onward h
always_step (Allow None) true n lasting now onward h = refl
always_step (Allow None) false n lasting now onward h = onward h
always_step (Allow (Some q)) s n lasting now onward h = always_left (not (nat_le q.limit q.used)) s n now (onward h)

always_from : (base : List ℕ) (kind : Kind) (subject : List ℕ) (given : Bool) (n : ℕ) (rules : List Rule)
    → allows (decision_from is_lasting n base rules kind subject given) ≡ true
    → allows (decision_from is_left n base rules kind subject given) ≡ true
always_from base kind subject given n [] h = h
always_from base kind subject given n (rule ∷ rules) h =
    always_step rule.effect (speaks base rule kind subject given) n
    (decision_from is_lasting (n + 1) base rules kind subject given)
    (decision_from is_left (n + 1) base rules kind subject given) (always_from base kind subject given (n + 1) rules) h

is_always : (first lasting : Decision) → outlook_by first lasting ≡ Always → allows lasting ≡ true
is_always first (d.Allow n) h = refl
is_always (d.Allow n) (d.Deny m) h = cc
is_always (d.Allow n) d.NoRule h = cc
is_always (d.Deny n) (d.Deny m) h = cc
is_always (d.Deny n) d.NoRule h = cc
is_always d.NoRule (d.Deny m) h = cc
is_always d.NoRule d.NoRule h = cc

pub always : (book : Rulebook) (kind : Kind) (subject : List ℕ) (given : Bool) → outlook book kind subject given
    ≡ Always → allows (decision book kind subject given) ≡ true
always book kind subject given h =
    always_from book.base kind subject given 1 book.rules
    (is_always (decision_from is_any 1 book.base book.rules kind subject given)
    (decision_from is_lasting 1 book.base book.rules kind subject given) h)

-- ---- what is never allowed is denied now

never_left : (b : Bool) (n : ℕ) (later made : Decision) → allows later ≡ false → allows (cond (b && false) made later)
    ≡ false
never_left true n later made h = h
never_left false n later made h = h

never_step : (e : Effect) (s : Bool) (n : ℕ) (first now : Decision) → (allows first ≡ false → allows now ≡ false)
    → allows (cond s (decided e n) first) ≡ false → allows (cond (not (is_used_up_by e) && s) (decided e n) now) ≡ false
never_step (Allow quota) true n first now onward h = absurd (true≢false h)
never_step (Allow quota) false n first now onward h = never_left (not (is_spent quota)) n now (d.Allow n) (onward h)
never_step Deny true n first now onward h = refl
never_step Deny false n first now onward h = onward h

never_from : (base : List ℕ) (kind : Kind) (subject : List ℕ) (given : Bool) (n : ℕ) (rules : List Rule)
    → allows (decision_from is_any n base rules kind subject given) ≡ false
    → allows (decision_from is_left n base rules kind subject given) ≡ false
never_from base kind subject given n [] h = h
never_from base kind subject given n (rule ∷ rules) h =
    never_step rule.effect (speaks base rule kind subject given) n (decision_from is_any (n + 1) base rules kind subject
    given)
    (decision_from is_left (n + 1) base rules kind subject given) (never_from base kind subject given (n + 1) rules) h

is_never : (first lasting : Decision) → outlook_by first lasting ≡ Never → allows first ≡ false
is_never first (d.Allow n) h = cc
is_never (d.Allow n) (d.Deny m) h = cc
is_never (d.Allow n) d.NoRule h = cc
is_never (d.Deny n) (d.Deny m) h = refl
is_never (d.Deny n) d.NoRule h = refl
is_never d.NoRule (d.Deny m) h = refl
is_never d.NoRule d.NoRule h = refl

pub never : (book : Rulebook) (kind : Kind) (subject : List ℕ) (given : Bool) → outlook book kind subject given ≡ Never
    → allows (decision book kind subject given) ≡ false
never book kind subject given h =
    never_from book.base kind subject given 1 book.rules
    (is_never (decision_from is_any 1 book.base book.rules kind subject given)
    (decision_from is_lasting 1 book.base book.rules kind subject given) h)
