-- What contracts see of a monitor.
use Rattle.std.specs.Prelude.{ℕ, Option}
use Rattle.box_policy.specs.Rulebook.{Rulebook}
use Rattle.box_monitor.specs.declared.log_end.LogEnd.{LogEnd}

-- the policy with its counts, the world behind, the log, how many asks were denied, and how the log stood when it
-- stopped, or none while it goes on
pub record Watch (W L : Type 0) : Type 0 where
  pub policy : Rulebook
  pub world : W
  pub log : L
  pub denials : ℕ
  pub stop : Option LogEnd
