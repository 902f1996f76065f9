-- What patterns are matched with, found once for all rules.
use Rattle.std.specs.Prelude.{◌≡◌, ℕ, Bool, true, false, List, [], ◌∷◌, Option, Some, None, if◌then◌else◌, nat_lt, ◌==◌}
use Rattle.std.specs.Str.{bytes_eq}
use Rattle.box_policy.specs.declared.deciding.Sight.{Sight}
use Rattle.box_policy.specs.declared.deciding.Sight.TheVariants.{Left, Lasting, All}
use Rattle.box_policy.specs.declared.deciding.Target.{Target}
use Rattle.box_policy.specs.declared.index.Group.{Group}
use Rattle.box_policy.specs.declared.index.Group.TheVariants.{Rooted, Under, Other}
use Rattle.box_policy.specs.declared.names.Names.{Names}
use Rattle.box_policy.specs.declared.policy.Kind.{Kind}
use Rattle.box_policy.specs.declared.policy.Rule.{Rule}
use Rattle.box_policy.specs.Bases.{IsBehind}
use Rattle.box_policy.specs.Decisions.{is_any, is_lasting, is_left}
use Rattle.box_policy.specs.Files.{is_of_files}
use Rattle.box_policy.specs.Fits.{is_readable}
use Rattle.box_policy.specs.NamesLeft.{names_left}
use Rattle.box_policy.specs.Paths.{names, names_under}
use Rattle.box_policy.specs.Shelves.{shelf, stands}

-- the rules that are looked at
abbrev pub sees : Sight → Rule → Bool
sees Left rule = is_left rule
sees Lasting rule = is_lasting rule
sees All rule = is_any rule

-- what is left of a subject's components behind those of the base, if it stands under that
abbrev pub IsLeft : List ℕ → List (List ℕ) → Option Names → Type 0
IsLeft base subject None = IsBehind (names base) subject None
IsLeft base subject (Some left) = IsBehind (names base) subject (Some (names_left left))

-- a subject of this kind under this base
pub record IsTarget (base : List ℕ) (kind : Kind) (subject : List ℕ) (target : Target) : Type 0 where
  pub of_kind : target.kind ≡ kind
  pub of_subject : target.subject.now ≡ subject
  pub readable : is_readable base kind subject ≡ true
  pub names : names_left target.names ≡ names_under base subject
  pub left : is_of_files kind ≡ true → IsLeft base (names_under base subject) target.left

-- the rules of this kind and group whose first component is that of the subject
abbrev pub leads : Kind → Group → List (List ℕ) → Rule → Bool
leads kind group [] rule = false
leads kind group (name ∷ more) rule = stands (shelf kind group name) rule

abbrev pub rooted_at : Target → Rule → Bool
rooted_at target rule =
    if is_of_files target.kind then leads target.kind Rooted (names_left target.names) rule else false

abbrev pub under_left : Kind → Option Names → Rule → Bool
under_left kind None rule = false
under_left kind (Some left) rule = leads kind Under (names_left left) rule

abbrev pub under_at : Target → Rule → Bool
under_at target rule = if is_of_files target.kind then under_left target.kind target.left rule else false

abbrev pub other_at : Target → Rule → Bool
other_at target rule = stands (shelf target.kind Other []) rule

-- the lesser of two numbers that may be there
abbrev pub least : Option ℕ → Option ℕ → Option ℕ
least None other = other
least (Some n) None = Some n
least (Some n) (Some m) = if nat_lt m n then Some m else Some n

-- where one was n it is the next one now
abbrev pub after : ℕ → Option ℕ → Option ℕ → Option ℕ
after n next None = None
after n next (Some m) = if m == n then next else Some m
