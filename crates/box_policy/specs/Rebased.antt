-- A policy's rules under another base than its own.
use Rattle.std.specs.Prelude.{◌≡◌, ℕ, true, List, Option, None, Some, ◌⊎◌, codes}
use Rattle.toml.specs.Data.{Members, get_member}
use Rattle.box_policy.specs.declared.error.PolicyError.{PolicyError}
use Rattle.box_policy.specs.Refusals.{IsRefused, unless}
use Rattle.box_policy.specs.Rulebook.{Rulebook}
use Rattle.box_policy.specs.Tree.{keys_pass, text_at}
use Rattle.box_policy.specs.Words.{is_base, is_top_key, version_of}
use Rattle.box_policy.specs.Written.{Writes, Written}

-- why a base is refused, by the code that a text with this base is refused with: it is none that a policy may have
abbrev pub base_refusal : List ℕ → Option PolicyError
base_refusal base = unless (is_base (Some base)) 3 0

-- the same rules, which have allowed as often as they had, under this base
abbrev pub rebased : List ℕ → Rulebook → Rulebook
rebased base book = record book { base = base }

-- The text writes a policy, and these are its rules: under its own base where no other one is given, and else under
-- that one.
abbrev pub WrittenUnder : Option (List ℕ) → List ℕ → Rulebook → Type 0
WrittenUnder None bytes book = Written bytes book
WrittenUnder (Some base) bytes book =
    (own : Rulebook) × Written bytes own × (base_refusal base ≡ None) × (book ≡ rebased base own)

-- why there is no such policy: the text is refused, and only then the base
abbrev pub IsRefusedUnder : Option (List ℕ) → List ℕ → PolicyError → Type 0
IsRefusedUnder None bytes e = IsRefused bytes e
IsRefusedUnder (Some base) bytes e =
    IsRefused bytes e ⊎ ((own : Rulebook) × Written bytes own × (base_refusal base ≡ Some e))

-- ---- a base in the place of a text's own is what that text would say with it

-- the second document has this base, and else what the first one has
pub record HasBase (tree other : Members) (base : List ℕ) : Type 0 where
  pub keys : keys_pass is_top_key other ≡ true
  pub version : version_of other ≡ version_of tree
  pub base_is : text_at (codes "base") other ≡ Some base
  pub rules : get_member (codes "rule") other ≡ get_member (codes "rule") tree

-- Where the first one writes a policy, the second one writes the same rules under its base: so no rule is refused under
-- one base that is accepted under another one.
abbrev pub BaseIsFree : Type 0
BaseIsFree =
    (tree other : Members) (base : List ℕ) (book : Rulebook) →
    Writes tree book → base_refusal base ≡ None → HasBase tree other base → Writes other (rebased base book)
