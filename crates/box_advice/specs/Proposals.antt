-- A policy that is made of another one and of what it is to allow.
use Rattle.std.specs.Prelude.{◌≡◌, ℕ, ◌<◌, ◌≤◌, Bool, true, false, List, [], ◌++◌, ◌+◌, length, Option, Some, None}
use Rattle.std.specs.Prelude.{Contains, ◌⊎◌, map, option_map}
use Rattle.std.specs.Str.{bytes_eq}
use Rattle.box_policy.specs.declared.policy.Decision.TheVariants.{Allow, Deny, NoRule}
use Rattle.box_policy.specs.declared.policy.Kind.{Kind}
use Rattle.box_policy.specs.declared.policy.Outlook.TheVariants.{Always, Never}
use Rattle.box_policy.specs.declared.policy.Rule.{Rule}
use Rattle.box_policy.specs.Counts.{rule_cleared}
use Rattle.box_policy.specs.declared.error.PolicyError.{PolicyError}
use Rattle.box_policy.specs.Decisions.{decision, outlook}
use Rattle.box_policy.specs.Exact.{is_exact, Same}
use Rattle.box_policy.specs.Rebased.{IsRefusedUnder, WrittenUnder}
use Rattle.box_policy.specs.Refusals.{no_memory}
use Rattle.box_policy.specs.Rulebook.{Rulebook}
use Rattle.box_policy.specs.Words.{is_base}
use Rattle.box_advice.specs.Wishes.{answer, grants_from, is_given, is_offered}
use Rattle.box_advice.specs.declared.proposing.Basis.{Basis}
use Rattle.box_advice.specs.declared.proposing.Basis.TheVariants.{Base, Policy}
use Rattle.box_advice.specs.declared.proposing.ProposalError.{ProposalError}
use Rattle.box_advice.specs.declared.proposing.ProposalError.TheVariants as e
use Rattle.box_advice.specs.declared.wishes.Wish.{Wish}

-- the policy with these rules behind its own
abbrev pub with_gained : Rulebook → List Rule → Rulebook
with_gained book rules = record book { rules = book.rules ++ rules }

-- ---- what a proposal does to decisions

-- the wish is of this kind and its text is no other subject to an exact rule; it is not just offered, and where it may
-- be an operand word, so is the subject
pub record IsWished (base : List ℕ) (kind : Kind) (subject : List ℕ) (given : Bool) (wish : Wish) : Type 0 where
  pub of_kind : wish.kind ≡ kind
  pub asked : is_offered kind ≡ false
  pub as_given : is_given wish ≡ true → given ≡ true
  pub text : List ℕ
  pub known : wish.text ≡ Some text
  pub same : Same base kind text subject

-- the first policy has no rule for the request, the last one allows it, and one of the wishes asks for it
pub record IsAdded (first last : Rulebook) (wishes : List Wish) (kind : Kind) (subject : List ℕ) (given : Bool) : Type 0
  where
    pub undecided : decision first kind subject given ≡ NoRule
    pub rule : ℕ
    pub allowed : decision last kind subject given ≡ Allow rule
    pub wish : Wish
    pub is_one : Contains wishes wish
    pub wished : IsWished first.base kind subject given wish

-- a wish that the first policy has no rule for, that is not just offered, and whose text a pattern may hold
pub record IsOwed (first : Rulebook) (wishes : List Wish) (wish : Wish) (text : List ℕ) : Type 0 where
  pub is_one : Contains wishes wish
  pub known : wish.text ≡ Some text
  pub undecided : answer first wish text ≡ NoRule
  pub exact : is_exact first.base wish.kind text ≡ true
  pub asked : is_offered wish.kind ≡ false

-- a rule of the first policy denies the wish, no pattern stands for its text alone, or it is just offered
abbrev pub IsKeptOut : Rulebook → Wish → List ℕ → Type 0
IsKeptOut first wish text =
    ((n : ℕ) × (answer first wish text ≡ Deny n))
    ⊎ ((is_exact first.base wish.kind text ≡ false) ⊎ (is_offered wish.kind ≡ true))

-- the policy once its rules have allowed so often
abbrev pub with_counts : Rulebook → List Rule → Rulebook
with_counts book counted = record book { rules = counted }

-- What is owed is allowed, however often rules have allowed: as an operand word where it may be one. What is decided
-- otherwise than the first policy does was wished, and the first policy had no rule for it, or none that was not used
-- up: so it is however often its rules have allowed, since the rules that are gained have no limit. Of commands and
-- names of the environment nothing is decided otherwise. So what is wished and never allowed, which makes `check`
-- refuse a script, is denied by a rule of the first policy, or no pattern can hold it, or it is just offered.
pub record Extends (first : Rulebook) (gains : List Rule) (wishes : List Wish) : Type 0 where
  pub allows : (wish : Wish) (text : List ℕ) → IsOwed first wishes wish text
      → outlook (with_gained first gains) wish.kind text (is_given wish) ≡ Always
  pub decides : (counted : List Rule) → map rule_cleared counted ≡ map rule_cleared first.rules
      → (kind : Kind) (subject : List ℕ) (given : Bool)
      → (decision (with_gained (with_counts first counted) gains) kind subject given
      ≡ decision (with_counts first counted) kind subject given)
      ⊎ IsAdded (with_counts first counted) (with_gained (with_counts first counted) gains) wishes kind subject given
  pub leaves : (counted : List Rule) → map rule_cleared counted ≡ map rule_cleared first.rules
      → (kind : Kind) (subject : List ℕ) (given : Bool) → is_offered kind ≡ true
      → decision (with_gained (with_counts first counted) gains) kind subject given
      ≡ decision (with_counts first counted) kind subject given
  pub refuses : (wish : Wish) (text : List ℕ) → Contains wishes wish → wish.text ≡ Some text
      → outlook (with_gained first gains) wish.kind text (is_given wish) ≡ Never → IsKeptOut first wish text

-- ---- a proposal

-- the base that is told, where one is, is this one
abbrev pub has_base : List ℕ → Option (List ℕ) → Bool
has_base base None = true
has_base base (Some told) = bytes_eq base told

-- the first policy: one without rules under a base, or the one that a text writes, under its own base or the given one
abbrev pub Starts : Basis → Rulebook → Type 0
Starts (Base base) first = first ≡ record { base = base.now; rules = [] }
Starts (Policy text base) first = WrittenUnder (option_map (λ s. s.now) base) text.now first

-- the base that is given beside a policy, which stands in the place of its own
abbrev pub base_of : Basis → Option (List ℕ)
base_of (Base base) = None
base_of (Policy text base) = option_map (λ s. s.now) base

-- the text writes the policy, under its own base or the given one, and the program would read so much of it
abbrev pub IsText : Option (List ℕ) → Rulebook → List ℕ → Type 0
IsText base book text = WrittenUnder base text book × (length text ≤ 16777216)

-- the text writes the first policy with what it gains, and that decides as it should
pub record Proposes (base : Option (List ℕ)) (first : Rulebook) (wishes : List Wish) (text : List ℕ) : Type 0 where
  pub accepted : IsText base (with_gained first (grants_from first [] wishes)) text
  pub extends : Extends first (grants_from first [] wishes) wishes

-- ---- what is refused; memory may be refused whatever the texts are

-- the text is none that may be a base
abbrev pub no_base : PolicyError
no_base = record { code = 3; rule = 0 }

-- a base: that it is none; that what was written for one does not read as it was meant, no contract rules out
abbrev pub IsBaseRefused : List ℕ → ProposalError → Type 0
IsBaseRefused base (e.Policy error) = (error ≡ no_base) × (is_base (Some base) ≡ false)
IsBaseRefused base e.TooManyRules = ⊥
IsBaseRefused base e.TooLong = ⊥
IsBaseRefused base e.Misprinted = is_base (Some base) ≡ true
IsBaseRefused base e.Memory = Unit {0}

-- a policy's text, or the base that is given
abbrev pub IsTextRefused : List ℕ → Option (List ℕ) → ProposalError → Type 0
IsTextRefused text base (e.Policy error) = IsRefusedUnder base text error × (error ≡ no_memory → ⊥)
IsTextRefused text base e.TooManyRules = ⊥
IsTextRefused text base e.TooLong = ⊥
IsTextRefused text base e.Misprinted = ⊥
IsTextRefused text base e.Memory = Unit {0}

abbrev pub IsStartRefused : Basis → ProposalError → Type 0
IsStartRefused (Base base) error = IsBaseRefused base.now error
IsStartRefused (Policy text base) error = IsTextRefused text.now (option_map (λ s. s.now) base) error

-- the policy may have the rules that it gains
abbrev pub HasRoom : Rulebook → List Wish → Type 0
HasRoom first wishes = length first.rules + length (grants_from first [] wishes) ≤ 1024

-- what is to be written for a policy: a text that writes it is too long to be read; that it is misprinted no contract
-- rules out
abbrev pub IsNotPrinted : Option (List ℕ) → Rulebook → ProposalError → Type 0
IsNotPrinted base last (e.Policy error) = ⊥
IsNotPrinted base last e.TooManyRules = ⊥
IsNotPrinted base last e.TooLong = (text : List ℕ) × WrittenUnder base text last × (16777216 < length text)
IsNotPrinted base last e.Misprinted = Unit {0}
IsNotPrinted base last e.Memory = Unit {0}

-- what a policy would gain: its rules are too many, or else a text that writes it is too long to be read; that it is
-- misprinted no contract rules out
abbrev pub IsGainRefused : Option (List ℕ) → Rulebook → List Wish → ProposalError → Type 0
IsGainRefused base first wishes (e.Policy error) = ⊥
IsGainRefused base first wishes e.TooManyRules = 1024 < length first.rules + length (grants_from first [] wishes)
IsGainRefused base first wishes e.TooLong =
    HasRoom first wishes × (text : List ℕ)
    × WrittenUnder base text (with_gained first (grants_from first [] wishes))
    × (16777216 < length text)
IsGainRefused base first wishes e.Misprinted = HasRoom first wishes
IsGainRefused base first wishes e.Memory = Unit {0}

abbrev pub IsProposalRefused : Basis → List Wish → ProposalError → Type 0
IsProposalRefused start wishes error =
    IsStartRefused start error
    ⊎ ((first : Rulebook) × Starts start first × IsGainRefused (base_of start) first wishes error)
