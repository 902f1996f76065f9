-- The patterns that a rule may have.
use Rattle.std.specs.Prelude.{ℕ, Bool, true, false, not, ◌&&◌, ◌||◌, ◌==◌, List, [], ◌∷◌, Option, Some, None, is_some}
use Rattle.std.specs.Prelude.{codes}
use Rattle.std.specs.List.{list_any, list_all}
use Rattle.std.specs.Str.{bytes_eq}
use Rattle.box_policy.specs.declared.policy.Kind.{Kind}
use Rattle.box_policy.specs.declared.policy.Kind.TheVariants.{Read, Write, Append, Run, Env, Assign}
use Rattle.box_policy.specs.Paths.{names, normal}
use Rattle.box_policy.specs.Patterns.{is_name_byte}

-- `**` stands somewhere in the text
abbrev pub has_double_star : List ℕ → Bool
has_double_star [] = false
has_double_star (b ∷ []) = false
has_double_star (b ∷ c ∷ bs) = (b == 42 && c == 42) || has_double_star (c ∷ bs)

-- a component of a path's pattern: just `**`, or without it
abbrev pub is_component : List ℕ → Bool
is_component piece = bytes_eq piece (codes "**") || not (has_double_star piece)

-- a path's pattern has a normal form under the base, and each component is one of a pattern
abbrev pub is_path_pattern : List ℕ → List ℕ → Bool
is_path_pattern base pattern = is_some (normal base pattern) && list_all is_component (names pattern)

-- a name's pattern is not empty and has only a name's bytes and `*`
abbrev pub is_name_pattern : List ℕ → Bool
is_name_pattern pattern = not (bytes_eq pattern []) && list_all (λ b. is_name_byte b || b == 42) pattern

-- a command's pattern is not empty and has no NUL
abbrev pub is_command_pattern : List ℕ → Bool
is_command_pattern pattern = not (bytes_eq pattern []) && not (list_any (λ b. b == 0) pattern)

-- a pattern that a rule of this kind may have under this base
abbrev pub is_pattern : List ℕ → Kind → List ℕ → Bool
is_pattern base Read pattern = is_path_pattern base pattern
is_pattern base Write pattern = is_path_pattern base pattern
is_pattern base Append pattern = is_path_pattern base pattern
is_pattern base Run pattern = is_command_pattern pattern
is_pattern base Env pattern = is_name_pattern pattern
is_pattern base Assign pattern = is_name_pattern pattern

-- the pattern is there and is one for its kind
abbrev pub is_pattern_of : List ℕ → Option Kind → Option (List ℕ) → Bool
is_pattern_of base (Some kind) (Some pattern) = is_pattern base kind pattern
is_pattern_of base _ _ = false
