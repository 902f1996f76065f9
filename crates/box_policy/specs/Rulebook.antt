-- A policy: what is written, with how often each rule that has a limit has allowed.
use Rattle.std.specs.Prelude.{ℕ, List}
use Rattle.box_policy.specs.declared.policy.Rule.{Rule}

-- the base as written, and the rules in the order of the file
pub record Rulebook : Type 0 where
  pub base : List ℕ
  pub rules : List Rule
