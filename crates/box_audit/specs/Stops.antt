-- How an audit comes to answer `Stop::Log`.
use Rattle.std.specs.Prelude.{◌≡◌, ℕ, Bool, true, List, Option, Some, is_some, ◌⊎◌}
use Rattle.box_world.specs.Calls.{Call}
use Rattle.box_world.specs.declared.ask.Ask.{Ask}
use Rattle.box_world.specs.declared.ask.Reply.{Reply}
use Rattle.box_audit.specs.Audit.{Audit, Grows, halt_behind}
use Rattle.box_audit.specs.Audited.{audit_text, audited}
use Rattle.box_audit.specs.Follows.{GoesToLine}

-- the world behind stops at the ask
pub record StopsBehind {W L : Type 0} (stops : W → List Call → Ask → W → Type 0) (contents : L → Option (List ℕ))
    (old : Audit W L) (calls : List Call) (ask : Ask) (new : Audit W L) : Type 0 where
  pub inner : stops old.world calls ask new.world
  pub after : new.halt ≡ Some halt_behind
  pub log : Grows contents old.log new.log (audit_text (audited calls))

-- it had stopped before, or the log did not take the line of the ask, or the world behind stops
abbrev pub Stops : {W L : Type 0} → (W → List Call → W → Type 0) → (W → Bool) → (W → List Call → Ask → W → Type 0)
    → (L → Option (List ℕ)) → Audit W L → List Call → Ask → Audit W L → Type 0
Stops follows has_stopped stops contents old calls ask new =
    (is_some old.halt ≡ true)
    ⊎ ((reply : Reply) × GoesToLine follows has_stopped contents old calls (ask, reply) new)
    ⊎ StopsBehind stops contents old calls ask new
