-- How often a rule may allow, and how often it has.
use Rattle.std.specs.Prelude.{ℕ, ◌+◌, ◌-◌, ◌==◌, Bool, true, false, List, map, Option, None, Some, is_some, nat_le}
use Rattle.std.specs.Prelude.{nat_lt, slice_get, slice_set, if◌then◌else◌}
use Rattle.std.specs.Option.{option_map}
use Rattle.box_policy.specs.declared.policy.Effect.{Effect}
use Rattle.box_policy.specs.declared.policy.Effect.TheVariants.{Allow, Deny}
use Rattle.box_policy.specs.declared.policy.Quota.{Quota}
use Rattle.box_policy.specs.declared.policy.Rule.{Rule}
use Rattle.box_policy.specs.Rulebook.{Rulebook}

-- ---- one rule

-- it may allow a number of times
abbrev pub is_limited_by : Effect → Bool
is_limited_by (Allow quota) = is_some quota
is_limited_by Deny = false

abbrev pub is_limited : Rule → Bool
is_limited rule = is_limited_by rule.effect

-- it has allowed as often as it may
abbrev pub is_spent : Option Quota → Bool
is_spent None = false
is_spent (Some quota) = nat_le quota.limit quota.used

abbrev pub is_used_up_by : Effect → Bool
is_used_up_by (Allow quota) = is_spent quota
is_used_up_by Deny = false

abbrev pub is_used_up : Rule → Bool
is_used_up rule = is_used_up_by rule.effect

-- how often it has allowed; without a limit that is not counted
abbrev pub spent : Option Quota → ℕ
spent None = 0
spent (Some quota) = quota.used

abbrev pub used_by : Effect → ℕ
used_by (Allow quota) = spent quota
used_by Deny = 0

-- it has allowed once more; a rule without a limit, and one that is used up, stay as they are
abbrev pub one_more : Quota → Quota
one_more quota = if nat_lt quota.used quota.limit then record quota { used = quota.used + 1 } else quota

abbrev pub effect_counted : Effect → Effect
effect_counted (Allow quota) = Allow (option_map one_more quota)
effect_counted Deny = Deny

abbrev pub counted : Rule → Rule
counted rule = record rule { effect = effect_counted rule.effect }

-- it has allowed nothing yet
abbrev pub unused : Quota → Quota
unused quota = record quota { used = 0 }

abbrev pub effect_cleared : Effect → Effect
effect_cleared (Allow quota) = Allow (option_map unused quota)
effect_cleared Deny = Deny

abbrev pub rule_cleared : Rule → Rule
rule_cleared rule = record rule { effect = effect_cleared rule.effect }

-- ---- the rules of a policy, numbered from 1

abbrev pub rule_at : ℕ → List Rule → Option Rule
rule_at n rules = if n == 0 then None else slice_get rules (n - 1)

abbrev pub with_counted : ℕ → List Rule → Option Rule → List Rule
with_counted n rules None = rules
with_counted n rules (Some rule) = slice_set rules (n - 1) (counted rule)

-- the rules after one more request that rule n allowed, where it is there
abbrev pub rules_noted : ℕ → List Rule → List Rule
rules_noted n rules = with_counted n rules (rule_at n rules)

abbrev pub noted : ℕ → Rulebook → Rulebook
noted n book = record book { rules = rules_noted n book.rules }

-- the policy before any request
abbrev pub cleared : Rulebook → Rulebook
cleared book = record book { rules = map rule_cleared book.rules }

-- how often rule n has allowed: 0 where it is not there or has no limit
abbrev pub used_of : Option Rule → ℕ
used_of None = 0
used_of (Some rule) = used_by rule.effect

abbrev pub used : Rulebook → ℕ → ℕ
used book n = used_of (rule_at n book.rules)

-- whether it has allowed as often as it may
abbrev pub is_used_up_if : Option Rule → Bool
is_used_up_if None = false
is_used_up_if (Some rule) = is_used_up rule

abbrev pub is_used_up_at : Rulebook → ℕ → Bool
is_used_up_at book n = is_used_up_if (rule_at n book.rules)
