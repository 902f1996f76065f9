-- What a policy decides of a request, and why.
use Rattle.std.specs.Prelude.{◌≡◌, ℕ, Bool, List, Option, None, if◌then◌else◌}
use Rattle.box_policy.specs.declared.policy.Kind.{Kind}
use Rattle.box_policy.specs.Decisions.{decision}
use Rattle.box_policy.specs.Files.{is_of_files}
use Rattle.box_policy.specs.Paths.{normal}
use Rattle.box_policy.specs.Rulebook.{Rulebook}
use Rattle.box_policy.specs.Telling.{told_from}
use Rattle.box_advice.specs.declared.explaining.Reasons.{Reasons}

-- the normal form of a path; what is no path has none
abbrev pub path_of : List ℕ → Kind → List ℕ → Option (List (List ℕ))
path_of base kind subject = if is_of_files kind then normal base subject else None

-- the decision is the policy's, and of its rules of the kind those are told as fitting that speak of the subject
pub record IsWhy (book : Rulebook) (kind : Kind) (subject : List ℕ) (given : Bool) (why : Reasons) : Type 0 where
  pub path : why.path ≡ path_of book.base kind subject
  pub rules : why.rules.items ≡ told_from 1 book.base book.rules kind subject given
  pub decision : why.decision ≡ decision book kind subject given
