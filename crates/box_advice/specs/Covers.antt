-- Rules that leave nothing for others.
use Rattle.std.specs.Prelude.{◌≡◌, ℕ, ◌==◌, Bool, true, false, not, ◌&&◌, ◌||◌, List, [], ◌∷◌, Option, Some, None}
use Rattle.std.specs.Prelude.{codes, nat_eq, if◌then◌else◌}
use Rattle.std.specs.List.{list_all}
use Rattle.std.specs.Str.{bytes_eq}
use Rattle.box_policy.specs.declared.policy.Kind.{Kind}
use Rattle.box_policy.specs.declared.policy.Kind.TheVariants.{Read, Write, Append, Run, Env, Assign}
use Rattle.box_policy.specs.declared.policy.Rule.{Rule}
use Rattle.box_policy.specs.Counts.{is_limited}
use Rattle.box_policy.specs.Decisions.{kind_number, speaks}
use Rattle.box_policy.specs.Exact.{is_exact}
use Rattle.box_policy.specs.Fits.{pattern_fits}
use Rattle.box_policy.specs.Paths.{normal}

-- ---- what it is to cover

-- the earlier rule speaks of all that the later one speaks of, however often it has allowed
pub record Covers (base : List ℕ) (earlier later : Rule) : Type 0 where
  pub always : is_limited earlier ≡ false
  pub all : (kind : Kind) (subject : List ℕ) (given : Bool) → speaks base later kind subject given ≡ true →
      speaks base earlier kind subject given ≡ true

-- as patterns of the later rule's kind, the earlier one's fits what the later one's does
abbrev pub PatternCovers : List ℕ → Rule → Rule → Type 0
PatternCovers base earlier later =
    (subject : List ℕ) → pattern_fits base later.kind later.pattern subject ≡ true →
    pattern_fits base later.kind earlier.pattern subject ≡ true

-- ---- a decision, which finds no rule that is not covered, and does not find each that is

-- each byte of the component stands for itself
abbrev pub is_plain_piece : List ℕ → Bool
is_plain_piece piece = list_all (λ b. not (b == 42 || b == 63)) piece

-- all components but the last stand for themselves, and that is `**`
abbrev pub is_tree : List (List ℕ) → Bool
is_tree [] = false
is_tree (piece ∷ []) = bytes_eq piece (codes "**")
is_tree (piece ∷ next ∷ more) = is_plain_piece piece && is_tree (next ∷ more)

-- no component has a `?`
abbrev pub has_no_mark : List ℕ → Bool
has_no_mark piece = list_all (λ b. not (b == 63)) piece

-- the component is not `**`
abbrev pub is_flat : List ℕ → Bool
is_flat piece = not (bytes_eq piece (codes "**"))

-- If a pattern of these components fits the text of the other pattern, as if that were a path, then it fits whatever
-- that one does: its `**` may be all that is behind the components that they share, or its wildcards take those of the
-- other one as they take bytes and components.
abbrev pub takes_wildcards : (earlier later : Option (List (List ℕ))) → Bool
takes_wildcards (Some es) (Some ls) = is_tree es || (list_all has_no_mark es && list_all is_flat ls)
takes_wildcards (Some es) None = false
takes_wildcards None later = false

abbrev pub takes_paths : List ℕ → Rule → Rule → Bool
takes_paths base earlier later =
    is_exact base Read base && takes_wildcards (normal base earlier.pattern) (normal base later.pattern)

-- the same of the patterns of rules of one kind; a command's `**` takes whatever there is
abbrev pub takes_over : List ℕ → Kind → Rule → Rule → Bool
takes_over base Read earlier later = takes_paths base earlier later
takes_over base Write earlier later = takes_paths base earlier later
takes_over base Append earlier later = takes_paths base earlier later
takes_over base Run earlier later = bytes_eq earlier.pattern (codes "**")
takes_over base Env earlier later = false
takes_over base Assign earlier later = false

-- the rules have one kind and one pattern, and the earlier one speaks of operand words alone only where the later one
-- does
abbrev pub is_same : Rule → Rule → Bool
is_same earlier later =
    nat_eq (kind_number earlier.kind) (kind_number later.kind) && (later.only_given || not earlier.only_given)
    && bytes_eq earlier.pattern later.pattern

-- the earlier rule speaks of the later one's pattern, as if that were a subject
abbrev pub speaks_of : List ℕ → Rule → Rule → Bool
speaks_of base earlier later = speaks base earlier later.kind later.pattern later.only_given

-- Whether the earlier rule is found to cover the later one: the later one fits one text alone, which the earlier one
-- speaks of; or their patterns are the same, or the one takes over from the other.
abbrev pub covers : List ℕ → Rule → Rule → Bool
covers base earlier later =
    not (is_limited earlier)
    && (if is_exact base later.kind later.pattern then speaks_of base earlier later
    else is_same earlier later || (speaks_of base earlier later && takes_over base later.kind earlier later))
