-- What tells at a glance that a pattern does not fit a text: how it begins, where that stands for itself.
use Rattle.std.specs.Prelude.{◌≡◌, ℕ, ◌+◌, ◌*◌, ◌%◌, ◌^◌, ◌==◌, Bool, true, false, not, ◌&&◌}
use Rattle.std.specs.Prelude.{if◌then◌else◌, List, [], ◌∷◌, length, Option, Some, None, nat_eq, slice_get}
use Rattle.std.specs.List.{list_all}
use Rattle.box_policy.specs.declared.policy.Kind.{Kind}
use Rattle.box_policy.specs.declared.policy.Rule.{Rule}
use Rattle.box_policy.specs.Decisions.{kind_number}
use Rattle.box_policy.specs.Files.{is_of_files}
use Rattle.box_policy.specs.Paths.{names_under}
use Rattle.box_policy.specs.Short.{are_short}
use Rattle.box_advice.specs.Covers.{is_flat, is_plain_piece}
use Rattle.box_advice.specs.declared.heads.Head.{Head}
use Rattle.box_advice.specs.declared.heads.Outline.{Outline}
use Rattle.box_advice.specs.declared.heads.Trail.{Trail}

-- ---- what a text is made of

-- a path of its components, and a command or a name of itself
unfoldable pub pieces : List ℕ → Kind → List ℕ → List (List ℕ)
pieces base kind text = if is_of_files kind then names_under base text else text ∷ []

abbrev pub has_no_star : List ℕ → Bool
has_no_star text = list_all (λ b. not (b == 42)) text

-- as a piece of a pattern of this kind it stands for itself
unfoldable pub stands_alone : Kind → List ℕ → Bool
stands_alone kind piece = if is_of_files kind then is_plain_piece piece else has_no_star piece

-- the pieces before the first one that does not
abbrev pub head_of : Kind → List (List ℕ) → List (List ℕ)
head_of kind [] = []
head_of kind (piece ∷ more) = if stands_alone kind piece then piece ∷ head_of kind more else []

-- a pattern of these pieces fits as many as it has
unfoldable pub is_counted : Kind → List (List ℕ) → Bool
is_counted kind ps = if is_of_files kind then list_all is_flat ps else true

-- ---- pieces as one number, by which they are told apart

unfoldable pub stirred : ℕ → ℕ → ℕ
stirred mark b = ((mark * 1099511628211) % 2 ^ 64 + b) % 2 ^ 64

abbrev pub piece_mark : ℕ → List ℕ → ℕ
piece_mark mark [] = stirred mark 47
piece_mark mark (b ∷ bs) = piece_mark (stirred mark b) bs

abbrev pub mark_of : ℕ → List (List ℕ) → ℕ
mark_of mark [] = mark
mark_of mark (piece ∷ more) = mark_of (piece_mark mark piece) more

-- behind this one those of the first of the pieces, of the first two, and so on
abbrev pub marks_from : ℕ → List (List ℕ) → List ℕ
marks_from mark [] = []
marks_from mark (piece ∷ more) = piece_mark mark piece ∷ marks_from (piece_mark mark piece) more

abbrev pub first_mark : ℕ
first_mark = 1469598103934665603

-- ---- a pattern's head, and a text's trail

-- the pieces that stand for themselves, and how many a text that it fits has
pub record IsHead (kind : Kind) (ps : List (List ℕ)) (head : Head) : Type 0 where
  pub of_kind : head.kind ≡ kind
  pub depth : head.depth ≡ length (head_of kind ps)
  pub mark : head.mark ≡ mark_of first_mark (head_of kind ps)
  pub counted : (n : ℕ) → head.count ≡ Some n → (n ≡ length ps) × (is_counted kind ps ≡ true)

pub record IsTrail (kind : Kind) (ps : List (List ℕ)) (trail : Trail) : Type 0 where
  pub of_kind : trail.kind ≡ kind
  pub count : trail.count ≡ length ps
  pub marks : trail.marks.items ≡ first_mark ∷ marks_from first_mark ps

-- what has no normal form has neither
abbrev pub IsHeadOf : Kind → List (List ℕ) → Option Head → Type 0
IsHeadOf kind ps None = Unit {0}
IsHeadOf kind ps (Some head) = IsHead kind ps head

abbrev pub IsTrailOf : Kind → List (List ℕ) → Option Trail → Type 0
IsTrailOf kind ps None = Unit {0}
IsTrailOf kind ps (Some trail) = IsTrail kind ps trail

pub record IsOutline (kind : Kind) (ps : List (List ℕ)) (outline : Outline) : Type 0 where
  pub head : IsHeadOf kind ps outline.head
  pub trail : IsTrailOf kind ps outline.trail

-- the heads of the rules, as far as they go
abbrev pub AreHeads : List ℕ → List Rule → List (Option Head) → Type 0
AreHeads base rules heads =
    (k : ℕ) (rule : Rule) (head : Option Head) → slice_get rules k ≡ Some rule → slice_get heads k ≡ Some head
    → IsHeadOf rule.kind (pieces base rule.kind rule.pattern) head

-- rules, each with its head, none of them too long
pub record HasHeads (base : List ℕ) (rules : List Rule) (heads : List (Option Head)) : Type 0 where
  pub short : are_short rules ≡ true
  pub same : length heads ≡ length rules
  pub all : AreHeads base rules heads

-- ---- whether a pattern of this head may fit a text of this trail

abbrev pub is_mark : Option ℕ → ℕ → Bool
is_mark None mark = false
is_mark (Some one) mark = nat_eq one mark

abbrev pub is_count : Option ℕ → ℕ → Bool
is_count None count = true
is_count (Some one) count = nat_eq one count

unfoldable pub may_meet : Head → Trail → Bool
may_meet head trail =
    nat_eq (kind_number head.kind) (kind_number trail.kind) && is_count head.count trail.count
    && is_mark (slice_get trail.marks.items head.depth) head.mark

abbrev pub may_fit : Option Head → Option Trail → Bool
may_fit (Some head) (Some trail) = may_meet head trail
may_fit (Some head) None = true
may_fit None trail = true
