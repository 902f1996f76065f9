-- Patterns whose bytes all stand for themselves.
use Rattle.std.specs.Prelude.{ℕ, Bool, not, ◌&&◌, ◌||◌, ◌==◌, List}
use Rattle.std.specs.List.{list_all}
use Rattle.box_policy.specs.declared.tokens.Sort.{Sort}
use Rattle.box_policy.specs.declared.tokens.Sort.TheVariants.{Component, Command, Name}

-- the byte stands for more than itself in a pattern of this sort
abbrev pub is_wild : Sort → ℕ → Bool
is_wild Component b = b == 42 || b == 63
is_wild Command b = b == 42
is_wild Name b = b == 42

abbrev pub is_plain_pattern : Sort → List ℕ → Bool
is_plain_pattern sort pattern = list_all (λ b. not (is_wild sort b)) pattern
