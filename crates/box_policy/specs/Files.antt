-- Whether a policy speaks of files.
use Rattle.std.specs.Prelude.{Bool, true, false}
use Rattle.std.specs.List.{list_any}
use Rattle.box_policy.specs.Rulebook.{Rulebook}
use Rattle.box_policy.specs.declared.policy.Kind.{Kind}
use Rattle.box_policy.specs.declared.policy.Kind.TheVariants.{Read, Write, Append, Run, Env, Assign}

-- the kinds whose patterns are paths
abbrev pub is_of_files : Kind → Bool
is_of_files Read = true
is_of_files Write = true
is_of_files Append = true
is_of_files Run = false
is_of_files Env = false
is_of_files Assign = false

-- some rule is of such a kind
abbrev pub speaks_of_files : Rulebook → Bool
speaks_of_files book = list_any (λ rule. is_of_files rule.kind) book.rules
