-- How long patterns are.
use Rattle.std.specs.Prelude.{Bool, List, length, nat_le}
use Rattle.std.specs.List.{list_all}
use Rattle.box_policy.specs.declared.policy.Rule.{Rule}

-- no pattern has more than 4,096 bytes
abbrev pub are_short : List Rule → Bool
are_short rules = list_all (λ rule. nat_le (length rule.pattern) 4096) rules
