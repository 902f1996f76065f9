-- Rules whose pattern fits one text alone.
use Rattle.std.specs.Prelude.{◌≡◌, ℕ, Bool, true, false, ◌&&◌, List, length, nat_le, None}
use Rattle.std.specs.List.{list_all}
use Rattle.std.specs.Str.{is_utf8}
use Rattle.box_policy.specs.declared.policy.Effect.TheVariants.{Allow}
use Rattle.box_policy.specs.declared.policy.Kind.{Kind}
use Rattle.box_policy.specs.declared.policy.Kind.TheVariants.{Read, Write, Append, Run, Env, Assign}
use Rattle.box_policy.specs.declared.policy.Rule.{Rule}
use Rattle.box_policy.specs.declared.tokens.Sort.TheVariants.{Component, Command, Name}
use Rattle.box_policy.specs.Paths.{names, normal}
use Rattle.box_policy.specs.Plain.{is_plain_pattern}
use Rattle.box_policy.specs.Wellformed.{is_pattern}

-- each byte of a pattern of this kind stands for itself
abbrev pub is_literal : Kind → List ℕ → Bool
is_literal Read text = list_all (is_plain_pattern Component) (names text)
is_literal Write text = list_all (is_plain_pattern Component) (names text)
is_literal Append text = list_all (is_plain_pattern Component) (names text)
is_literal Run text = is_plain_pattern Command text
is_literal Env text = is_plain_pattern Name text
is_literal Assign text = is_plain_pattern Name text

-- the text may be the pattern of a rule of this kind, and has no wildcard
abbrev pub is_exact : List ℕ → Kind → List ℕ → Bool
is_exact base kind text =
    nat_le (length text) 4096 && (is_utf8 text && (is_pattern base kind text && is_literal kind text))

-- two subjects of a kind that no exact rule tells apart: paths of one normal form, or one command or name
abbrev pub Same : List ℕ → Kind → List ℕ → List ℕ → Type 0
Same base Read one other = normal base one ≡ normal base other
Same base Write one other = normal base one ≡ normal base other
Same base Append one other = normal base one ≡ normal base other
Same base Run one other = one ≡ other
Same base Env one other = one ≡ other
Same base Assign one other = one ≡ other

-- the rule allows, as often as it is asked for and whoever names it, and fits one text alone
pub record IsGrant (base : List ℕ) (rule : Rule) : Type 0 where
  pub allows : rule.effect ≡ Allow None
  pub any : rule.only_given ≡ false
  pub exact : is_exact base rule.kind rule.pattern ≡ true
