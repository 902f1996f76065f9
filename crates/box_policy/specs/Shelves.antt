-- The index of a policy: of each shelf its first rule, and of each rule the next one on its shelf.
use Rattle.std.specs.Prelude.{◌≡◌, ℕ, ◌+◌, Bool, true, false, if◌then◌else◌, List, [], ◌∷◌, Option, Some, None}
use Rattle.std.specs.Map.{lookup}
use Rattle.std.specs.Str.{bytes_eq}
use Rattle.box_policy.specs.declared.index.Group.{Group}
use Rattle.box_policy.specs.declared.index.Group.TheVariants.{Rooted, Under, Other}
use Rattle.box_policy.specs.declared.index.Index.{Index}
use Rattle.box_policy.specs.declared.policy.Kind.{Kind}
use Rattle.box_policy.specs.declared.policy.Rule.{Rule}
use Rattle.box_policy.specs.declared.tokens.Sort.TheVariants.{Component}
use Rattle.box_policy.specs.Decisions.{kind_number}
use Rattle.box_policy.specs.Files.{is_of_files}
use Rattle.box_policy.specs.Paths.{names, is_absolute}
use Rattle.box_policy.specs.Plain.{is_plain_pattern}

-- one number for each
abbrev pub group_number : Group → ℕ
group_number Rooted = 0
group_number Under = 1
group_number Other = 2

-- a shelf, as one list
abbrev pub shelf : Kind → Group → List ℕ → List ℕ
shelf kind group first = kind_number kind ∷ group_number group ∷ first

-- where a pattern of these components stands: by its first one, if each byte of that stands for itself
abbrev pub path_shelf : Kind → Bool → List (List ℕ) → List ℕ
path_shelf kind absolute [] = shelf kind Other []
path_shelf kind absolute (piece ∷ pieces) =
    if is_plain_pattern Component piece then shelf kind (if absolute then Rooted else Under) piece
    else shelf kind Other []

-- where a rule stands
abbrev pub shelf_of : Rule → List ℕ
shelf_of rule =
    if is_of_files rule.kind then path_shelf rule.kind (is_absolute rule.pattern) (names rule.pattern)
    else shelf rule.kind Other []

-- the rule stands on the shelf
abbrev pub stands : List ℕ → Rule → Bool
stands place rule = bytes_eq place (shelf_of rule)

-- the number of the first rule that passes; the rules are numbered from n
abbrev pub first_of : (Rule → Bool) → ℕ → List Rule → Option ℕ
first_of test n [] = None
first_of test n (rule ∷ rules) = if test rule then Some n else first_of test (n + 1) rules

-- of each rule the next one on its shelf; the rules are numbered from n
abbrev pub chain : ℕ → List Rule → List (Option ℕ)
chain n [] = []
chain n (rule ∷ rules) = first_of (stands (shelf_of rule)) (n + 1) rules ∷ chain (n + 1) rules

-- it is the index of the rules
pub record IsIndex (rules : List Rule) (index : Index) : Type 0 where
  pub firsts : (place : List ℕ)
      → lookup (λ k. bytes_eq place (shelf k.kind k.group k.first.items)) index.firsts.entries
      ≡ first_of (stands place) 1 rules
  pub nexts : index.nexts.items ≡ chain 1 rules
