-- Whether a rule's pattern fits what is asked for.
use Rattle.std.specs.Prelude.{ℕ, Bool, true, false, ◌&&◌, List, Option, Some, None}
use Rattle.box_policy.specs.declared.tokens.Sort.TheVariants.{Command, Name}
use Rattle.box_policy.specs.declared.policy.Kind.{Kind}
use Rattle.box_policy.specs.declared.policy.Kind.TheVariants.{Read, Write, Append, Run, Env, Assign}
use Rattle.box_policy.specs.Division.{Symbol, fits}
use Rattle.box_policy.specs.Paths.{is_text, can_resolve, normal}
use Rattle.box_policy.specs.Patterns.{symbols, path_symbols}

-- the components can be divided among the symbols; without a normal form nothing fits
abbrev pub normal_fits : List (Symbol (List ℕ)) → Option (List (List ℕ)) → Bool
normal_fits path None = false
normal_fits path (Some names) = fits path names

-- under this base, the pattern of this kind fits: a path by its normal form, a command if it is a text, and a name
abbrev pub pattern_fits : List ℕ → Kind → List ℕ → List ℕ → Bool
pattern_fits base Read pattern subject = normal_fits (path_symbols base pattern) (normal base subject)
pattern_fits base Write pattern subject = normal_fits (path_symbols base pattern) (normal base subject)
pattern_fits base Append pattern subject = normal_fits (path_symbols base pattern) (normal base subject)
pattern_fits base Run pattern subject = is_text subject && fits (symbols Command pattern) subject
pattern_fits base Env pattern subject = fits (symbols Name pattern) subject
pattern_fits base Assign pattern subject = fits (symbols Name pattern) subject

-- some pattern of this kind may fit the subject
abbrev pub is_readable : List ℕ → Kind → List ℕ → Bool
is_readable base Read subject = can_resolve base subject
is_readable base Write subject = can_resolve base subject
is_readable base Append subject = can_resolve base subject
is_readable base Run subject = is_text subject
is_readable base Env subject = true
is_readable base Assign subject = true
