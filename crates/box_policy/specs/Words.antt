-- The words of a policy, and what they stand for.
use Rattle.std.specs.Prelude.{ℕ, ℤ, pos, int_le, unsigned_abs, Bool, true, false, ◌||◌, ◌&&◌, not, ◌==◌, if◌then◌else◌}
use Rattle.std.specs.Prelude.{List, [], Option, Some, None, option_and_then, is_some, codes}
use Rattle.std.specs.List.{list_any}
use Rattle.std.specs.Ordering.{int_eq}
use Rattle.std.specs.Str.{bytes_eq}
use Rattle.toml.specs.Data.{Data, Members, get_member, as_integer, string}
use Rattle.box_policy.specs.declared.policy.Kind.{Kind}
use Rattle.box_policy.specs.declared.policy.Kind.TheVariants.{Read, Write, Append, Run, Env, Assign}
use Rattle.box_policy.specs.declared.policy.Effect.{Effect}
use Rattle.box_policy.specs.declared.policy.Effect.TheVariants.{Allow, Deny}
use Rattle.box_policy.specs.declared.policy.Quota.{Quota}
use Rattle.box_policy.specs.declared.reading.Version.{Version}
use Rattle.box_policy.specs.declared.reading.Version.TheVariants.{One, Two}
use Rattle.box_policy.specs.Paths.{is_absolute, normal}
use Rattle.box_policy.specs.Tree.{text_at, has_key, keys_pass}

-- the keys that a policy may have
abbrev pub is_top_key : List ℕ → Bool
is_top_key key = bytes_eq key (codes "version") || bytes_eq key (codes "base") || bytes_eq key (codes "rule")

-- the versions, by the whole number at their key
abbrev pub version_named : ℤ → Option Version
version_named z = if int_eq z (pos 1) then Some One else if int_eq z (pos 2) then Some Two else None

abbrev pub version_of : Members → Option Version
version_of tree = option_and_then version_named (option_and_then as_integer (get_member (codes "version") tree))

-- rules may have limits from version 2 on
abbrev pub has_limits : Version → Bool
has_limits One = false
has_limits Two = true

-- the keys that a rule may have
abbrev pub is_rule_key : Version → List ℕ → Bool
is_rule_key version key =
    bytes_eq key (codes "effect") || bytes_eq key (codes "kind") || bytes_eq key (codes "match")
    || bytes_eq key (codes "from")
    || (bytes_eq key (codes "limit") && has_limits version)

-- `*` or `?`
abbrev pub has_wildcard : List ℕ → Bool
has_wildcard text = list_any (λ b. b == 42 || b == 63) text

-- a base: an absolute path without wildcards that has a normal form
abbrev pub is_base : Option (List ℕ) → Bool
is_base None = false
is_base (Some base) = is_absolute base && not (has_wildcard base) && is_some (normal base base)

-- how often a rule may allow: a whole number from 1 to 1,000,000
abbrev pub quota_named : ℤ → Option Quota
quota_named z =
    if int_le (pos 1) z && int_le z (pos 1000000) then Some (record { limit = unsigned_abs z; used = 0 }) else None

-- a rule that allows, with the limit that stands at its key, which may be absent
abbrev pub allowing : Option Data → Option Effect
allowing None = Some (Allow None)
allowing (Some limit) =
    option_and_then (λ quota. Some (Allow (Some quota))) (option_and_then quota_named (as_integer limit))

-- a rule that denies, which may have no limit
abbrev pub denying : Option Data → Option Effect
denying None = Some Deny
denying (Some limit) = None

-- the effect of this word with this limit
abbrev pub effect_named : Option Data → List ℕ → Option Effect
effect_named limit word =
    if bytes_eq word (codes "allow") then allowing limit else if bytes_eq word (codes "deny") then denying limit
    else None

abbrev pub kind_named : List ℕ → Option Kind
kind_named word =
    if bytes_eq word (codes "read") then Some Read
    else if bytes_eq word (codes "write") then Some Write
    else if bytes_eq word (codes "append") then Some Append
    else if bytes_eq word (codes "run") then Some Run
    else if bytes_eq word (codes "env") then Some Env
    else if bytes_eq word (codes "assign") then Some Assign
    else None

-- whether a rule speaks of operand words alone
abbrev pub from_named : List ℕ → Option Bool
from_named word =
    if bytes_eq word (codes "any") then Some false else if bytes_eq word (codes "given") then Some true else None

abbrev pub effect_of : Members → Option Effect
effect_of rule = option_and_then (effect_named (get_member (codes "limit") rule)) (text_at (codes "effect") rule)

abbrev pub kind_of : Members → Option Kind
kind_of rule = option_and_then kind_named (text_at (codes "kind") rule)

abbrev pub pattern_of : Members → Option (List ℕ)
pattern_of rule = text_at (codes "match") rule

-- the word after `from`, which may be absent, and which only rules of read and assign may have
abbrev pub from_in : Option Kind → Option Data → Option Bool
from_in kind None = Some false
from_in (Some Read) (Some (string word)) = from_named word
from_in (Some Assign) (Some (string word)) = from_named word
from_in kind (Some other) = None

abbrev pub from_of : Members → Option Bool
from_of rule = from_in (kind_of rule) (get_member (codes "from") rule)

-- no key but those of a rule, and each of these but `from` and `limit`
abbrev pub has_rule_keys : Version → Members → Bool
has_rule_keys version rule =
    keys_pass (is_rule_key version) rule
    && (has_key (codes "effect") rule && (has_key (codes "kind") rule && has_key (codes "match") rule))

-- each value is one of those that it may be
abbrev pub has_rule_values : Members → Bool
has_rule_values rule =
    is_some (effect_of rule) && (is_some (kind_of rule) && (is_some (pattern_of rule) && is_some (from_of rule)))
