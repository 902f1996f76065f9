-- How an audit goes on by calls that it answered.
use Rattle.std.specs.Prelude.{◌≡◌, ℕ, Bool, true, false, List, [], ◌∷◌, ◌++◌, Option, None, Some, is_some, ◌⊎◌}
use Rattle.box_monitor.specs.declared.log_end.LogEnd.{LogEnd}
use Rattle.box_world.specs.Calls.{Call}
use Rattle.box_world.specs.declared.ask.Reply.{Reply}
use Rattle.box_world.specs.declared.ask.Reply.TheVariants.{Opened}
use Rattle.box_world.specs.declared.ask.Request.{Request}
use Rattle.box_world.specs.declared.ask.Request.TheVariants.{Open}
use Rattle.box_audit.specs.Audit.{Audit, BreaksOff, Grows, halt_behind}
use Rattle.box_audit.specs.Audited.{Audited, audit_text, audited, audited_of, line_of}

-- whether a stream was opened
abbrev pub opens : Request → Reply → Bool
opens (Open mode text) (Opened n) = true
opens request reply = false

module _ {W L : Type 0} (follows : W → List Call → W → Type 0) (has_stopped : W → Bool) (contents : L → Option (List ℕ))
  where
    -- The world behind was asked these calls, and no others, and the log has their lines, each written once its reply
    -- was there. Neither has stopped.
    pub record Goes (old : Audit W L) (calls : List Call) (new : Audit W L) : Type 0 where
      pub before : old.halt ≡ None
      pub after : new.halt ≡ None
      pub inner : follows old.world calls new.world
      pub steady : has_stopped new.world ≡ has_stopped old.world
      pub log : Grows contents old.log new.log (audit_text (audited calls))

    -- after these calls the world behind stopped
    pub record GoesToStop (old : Audit W L) (calls : List Call) (new : Audit W L) : Type 0 where
      pub before : old.halt ≡ None
      pub after : new.halt ≡ Some halt_behind
      pub inner : follows old.world calls new.world
      pub log : Grows contents old.log new.log (audit_text (audited calls))

    -- After these calls the log did not take the line of one more. The world behind was asked that one too, and its
    -- reply was not handed on.
    pub record GoesToLine (old : Audit W L) (calls : List Call) (last : Call) (new : Audit W L) : Type 0 where
      pub before : old.halt ≡ None
      pub inner : follows old.world (calls ++ last ∷ []) new.world
      pub line : Audited
      pub told : audited_of last ≡ Some line
      pub end : LogEnd
      pub after : new.halt ≡ Some (record { log_end = end; has_opened = opens last.0.request last.1 })
      pub log : BreaksOff contents end old.log new.log (audit_text (audited calls)) (line_of line)

    -- it had stopped, and does nothing
    pub record IsIdle (old : Audit W L) (calls : List Call) (new : Audit W L) : Type 0 where
      pub before : is_some old.halt ≡ true
      pub none : calls ≡ []
      pub same : new ≡ old

    abbrev pub Follows : Audit W L → List Call → Audit W L → Type 0
    Follows old calls new =
        Goes old calls new ⊎ GoesToStop old calls new ⊎ ((last : Call) × GoesToLine old calls last new)
        ⊎ IsIdle old calls new
