-- What of a run an audit tells, in terms of the run's events.
use Rattle.std.specs.Prelude.{◌≡◌, ℕ, Bool, List, [], ◌∷◌, ◌++◌, Option, None, option_to_list}
use Rattle.box_monitor.specs.Passed.{passed_on, subject_of_wish}
use Rattle.box_policy.specs.Rulebook.{Rulebook}
use Rattle.box_world.specs.Calls.{Call}
use Rattle.box_world.specs.Events.{Event, calls}
use Rattle.box_audit.specs.Audit.{Audit, Grows}
use Rattle.box_audit.specs.Audited.{Audited, audit_text, audited_at}
use Rattle.box_audit.specs.Follows.{Follows}

-- what is told of an event, which a policy decides on or does not
abbrev pub audited_event : Event → Option Audited
audited_event e = audited_at e.want.place (subject_of_wish e.want.wish) e.reply

-- what is told of events, the oldest first; the newest event comes first
abbrev pub audited_events : List Event → List Audited
audited_events [] = []
audited_events (e ∷ es) = audited_events es ++ option_to_list (audited_event e)

-- Of the events of a run, an audit that stands behind a policy names those that this does not deny, in order, as long
-- as it has not stopped.
abbrev pub NamesAllowed : {W L : Type 0} → (W → List Call → W → Type 0) → (W → Bool) → (L → Option (List ℕ)) → Type 0
NamesAllowed {W} {L} follows has_stopped contents =
    (book : Rulebook) (events : List Event) (old new : Audit W L)
    → Follows follows has_stopped contents old (calls (passed_on book events)) new → new.halt ≡ None
    → Grows contents old.log new.log (audit_text (audited_events (passed_on book events)))
