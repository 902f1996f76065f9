-- What each step of an audit does.
use Rattle.std.specs.Prelude.{◌≡◌, ℕ, Bool, true, false, List, [], ◌∷◌, Option, Some, None, IsSome}
use Rattle.std.specs.Prelude.{Result, Ok, Err, ◌⊎◌}
use Rattle.box_monitor.specs.Subjects.{Subject, subject_of}
use Rattle.box_world.specs.Calls.{Call, IsFitting}
use Rattle.box_world.specs.declared.ask.Ask.{Ask}
use Rattle.box_world.specs.declared.ask.Reply.{Reply}
use Rattle.box_world.specs.declared.ask.Stop.{Stop}
use Rattle.box_world.specs.declared.ask.Stop.TheVariants.{Memory, Log}
use Rattle.box_audit.specs.Audit.{Audit, halt_behind}
use Rattle.box_audit.specs.Audited.{line_of}
use Rattle.box_audit.specs.Follows.{Goes, GoesToLine, GoesToStop}
use Rattle.box_audit.specs.Stops.{StopsBehind}
use Rattle.box_audit.specs.declared.lines.Lines.{Lines}

-- both lines of an ask, of which its reply picks one
pub record AreLines (ask : Ask) (lines : Lines) : Type 0 where
  pub subject : Subject
  pub is_subject : subject_of ask.request ≡ Some subject
  pub ok : lines.ok.items ≡ line_of (record { place = ask.place; subject = subject; failed = false })
  pub failed : lines.failed.items ≡ line_of (record { place = ask.place; subject = subject; failed = true })

-- no line is written for it: there is no log, or a policy does not decide on it
abbrev pub HasNoLine : {W L : Type 0} → Audit W L → Ask → Type 0
HasNoLine audit ask = (audit.log ≡ None) ⊎ (subject_of ask.request ≡ None)

-- How it comes to answer `Stop::Memory`: the world behind did, or no room was had for the line of an ask, which was not
-- passed on.
abbrev pub Lacks : {W L : Type 0} → (W → Ask → W → Type 0) → Audit W L → Ask → Audit W L → Type 0
Lacks lacks old ask new =
    lacks old.world ask new.world ⊎ (IsSome old.log × IsSome (subject_of ask.request) × (new ≡ old))

module _ {W L : Type 0} (follows : W → List Call → W → Type 0) (has_stopped : W → Bool) (open_numbers : W → List ℕ)
    (stops : W → List Call → Ask → W → Type 0) (lacks : W → Ask → W → Type 0) (contents : L → Option (List ℕ)) where
  -- what it does with an ask where it had not stopped
  abbrev pub Owes : Audit W L → Ask → Result Reply Stop → Audit W L → Type 0
  Owes old ask (Ok reply) new =
      Goes follows has_stopped contents old ((ask, reply) ∷ []) new
      × IsFitting (open_numbers old.world) ask.request reply
  Owes old ask (Err Memory) new = Goes follows has_stopped contents old [] new × Lacks lacks old ask new
  Owes old ask (Err Log) new =
      (GoesToStop follows has_stopped contents old [] new × StopsBehind stops contents old [] ask new)
      ⊎ ((reply : Reply) × GoesToLine follows has_stopped contents old [] (ask, reply) new)

  -- what the world behind does with it, of which no line is written yet
  abbrev pub Passes : Audit W L → Ask → Result Reply Stop → Audit W L → Type 0
  Passes old ask (Ok reply) new =
      follows old.world ((ask, reply) ∷ []) new.world × IsFitting (open_numbers old.world) ask.request reply
      × (has_stopped new.world ≡ has_stopped old.world) × (new.log ≡ old.log) × (new.halt ≡ old.halt)
  Passes old ask (Err Memory) new =
      follows old.world [] new.world × lacks old.world ask new.world
      × (has_stopped new.world ≡ has_stopped old.world) × (new.log ≡ old.log) × (new.halt ≡ old.halt)
  Passes old ask (Err Log) new =
      follows old.world [] new.world × stops old.world [] ask new.world × (new.log ≡ old.log)
      × (new.halt ≡ Some halt_behind)
