-- A run over a monitor, as a run under its policy.
use Rattle.std.proofs.Common.{◌≡◌, ℕ, ◌+◌, ◌-◌, ◌^◌, ◌≤◌, Bool, List, length, refl, sym, ◌∙◌, ap, subst, Option, Some}
use Rattle.std.proofs.Common.{None, inl, inr, arith}
use Rattle.std.specs.Prelude.{is_some, min, unwrap_or}
use Rattle.std.specs.Io.KnownBytes.{Appends}
use Rattle.awk_machine.specs.Laws.{EndsBy}
use Rattle.awk_machine.specs.Pieces.{Outcome, Faulted, Piece}
use Rattle.awk_machine.specs.Plays.{Stands, unlogged}
use Rattle.awk_machine.specs.State.{Course, Given, State}
use Rattle.awk_run.specs.Reports.{IsTold, Reported}
use Rattle.awk_text.specs.declared.fault.Fault.TheVariants.{Log as NoLog}
use Rattle.awk_text.specs.declared.place.Place.{Place}
use Rattle.box_world.specs.Calls.{Call}
use Rattle.box_world.specs.Events.{Event, Want, ask_of, calls, open_streams}
use Rattle.box_world.specs.declared.ask.Ask.{Ask}
use Rattle.box_policy.specs.Rulebook.{Rulebook}
use Rattle.box_monitor.specs.Follows.{Follows}
use Rattle.box_monitor.specs.Lines.{line_of, log_text}
use Rattle.box_monitor.specs.Passed.{DeniedFail, told_of}
use Rattle.box_monitor.specs.Stops.{LogEnds, Stops, StopsAtLog, StopsInside}
use Rattle.box_monitor.specs.Watch.{Watch}
use Rattle.box_monitor.specs.declared.log_end.LogEnd.{LogEnd}
use Rattle.box_monitor.specs.declared.log_end.LogEnd.TheVariants.{Whole, Part, Unsure}
use Rattle.awkbox.specs.Drives.{Drives, DrivesCounted, EndsAtLog, EndsInside, EndsWhole, LogStands}
use Rattle.awkbox.proofs.Passing.{asked-calls, denial-calls, denied-calls, told-calls}

-- a monitor that did not stop
going : (s : Option LogEnd) → is_some s ≡ is_some {T = LogEnd} None → s ≡ None
going None h = refl
going (Some e) h = cc

ended : (s : Option LogEnd) (old new : Option (List ℕ)) (text line : List ℕ) → LogEnds s old new text line
    → LogEnds (Some (unwrap_or s Whole)) old new text line
ended None old new text line h = absurd h
ended (Some Whole) old new text line h = absurd h
ended (Some Part) old new text line h = h
ended (Some Unsure) old new text line h = h

none_before : 0 ≤ 2 ^ 64 - 1
none_before = omega arith

one_count : (d n : ℕ) → d ≡ min (0 + n) (2 ^ 64 - 1) → d ≡ min n (2 ^ 64 - 1)
one_count d n h = omega arith

-- a monitor that was asked nothing yet
abbrev pub fresh : {W L : Type 0} → Rulebook → W → L → Watch W L
fresh book world log = record { policy = book; world = world; log = log; denials = 0; stop = None }

-- only the log ends a run at a request
at_request : {g : Given} {k : List Piece} {s : State} {c : Course} {o : Outcome} {want : Want}
    → Stands g k s c o (Some want) → o ≡ Faulted NoLog want.place
at_request (unlogged e) = refl

module _ {W L : Type 0} (follows : W → List Call → W → Type 0) (has_stopped : W → Bool) (stops : W → List Call → Ask → W
    → Type 0) (contents : L → Option (List ℕ)) where
  module _ (book : Rulebook) (world : W) (log : L) (m : Watch W L) (es : List Event)
      (leads : Follows follows has_stopped contents (fresh book world log) (calls es) m) (failed : DeniedFail book es)
    where
      at_log : (want : Want) → StopsAtLog contents (fresh book world log) (calls es) (ask_of want (open_streams es)) m
          → EndsAtLog stops contents book log es want (unwrap_or m.stop Whole) m.log
      at_log want a = record {
        line = a.line;
        denied = sym (denial-calls book es want (open_streams es)) ∙ a.denied;
        ends = ended m.stop (contents log) (contents m.log) (log_text (told_of book es)) (line_of a.line)
            (subst (λ t. LogEnds m.stop (contents log) (contents m.log) (log_text t) (line_of a.line))
            (told-calls book es) a.log);
      }

      inside : (want : Want) → StopsInside stops contents (fresh book world log) (calls es)
          (ask_of want (open_streams es)) m
          → EndsInside stops contents book world log es want (unwrap_or m.stop Whole) m.world m.log
      inside want a = record {
        allowed = sym (denial-calls book es want (open_streams es)) ∙ a.allowed;
        inner = subst (λ z. stops world z (ask_of want (open_streams es)) m.world) (asked-calls book es failed) a.inner;
        whole = record {
          whole = ap (λ s. unwrap_or s Whole) a.stop;
          lines = subst (λ t. Appends (contents log) (contents m.log) (log_text t)) (told-calls book es) a.log;
        };
      }

      whole : is_some m.stop ≡ is_some {T = LogEnd} None → EndsWhole stops contents book log es (unwrap_or m.stop Whole)
          m.log
      whole h =
          let none : m.stop ≡ None = going m.stop h in
          record {
            whole = ap (λ s. unwrap_or s Whole) none;
            lines = subst (λ t. Appends (contents log) (contents m.log) (log_text t)) (told-calls book es)
                (leads.goes none).log;
          }

      at_last : (place : Place) (want : Want) → Stops stops contents (fresh book world log) (calls es)
          (ask_of want (open_streams es)) m
          → LogStands stops contents book world log es (Faulted NoLog place) (Some want) (unwrap_or m.stop Whole)
          m.world
          m.log
      at_last place want s = elim s [
        | inl a ↦ cc
        | inr r ↦ elim r [ inl a ↦ inl (at_log want a) | inr a ↦ inr (inside want a) ]
      ]

      at_end : (outcome : Outcome) → IsTold outcome None → EndsWhole stops contents book log es (unwrap_or m.stop Whole)
          m.log
          → LogStands stops contents book world log es outcome None (unwrap_or m.stop Whole) m.world m.log
      at_end (Faulted NoLog place) told h = absurd told
      at_end outcome told h = h

      stands : {g : Given} {k : List Piece} {s : State} {c : Course} (outcome : Outcome) (last : Option Want)
          → Stands g k s c outcome last → IsTold outcome last
          → EndsBy (λ (w : Watch W L). is_some w.stop) (Stops stops contents) (fresh book world log) es last m
          → LogStands stops contents book world log es outcome last (unwrap_or m.stop Whole) m.world m.log
      stands outcome None at told h = at_end outcome told (whole h)
      stands outcome (Some want) at told h =
          subst (λ (o : Outcome). LogStands stops contents book world log es o (Some want) (unwrap_or m.stop Whole)
          m.world m.log) (sym (at_request at)) (at_last want.place want h)

  -- the monitor counted what it told
  counts : (book : Rulebook) (world : W) (log : L) (m : Watch W L) (es : List Event)
      → Follows follows has_stopped contents (fresh book world log) (calls es) m
      → m.denials ≡ min (length (told_of book es)) (2 ^ 64 - 1)
  counts book world log m es leads =
      one_count m.denials (length (told_of book es))
      (subst (λ t. m.denials ≡ min (0 + length t) (2 ^ 64 - 1)) (told-calls book es) (leads.denials none_before))

  pub drives_counted : (book : Rulebook) (g : Given) (world : W) (log : L) (o : Outcome) (used : ℕ) (m : Watch W L)
      → Reported (Follows follows has_stopped contents) (λ (w : Watch W L). is_some w.stop) (Stops stops contents) g
      (fresh book world log) o used m
      → DrivesCounted follows stops contents book g world log o used m.denials (unwrap_or m.stop Whole) m.world m.log
  drives_counted book g world log o used m r =
      let y = r.played in
      let failed = denied-calls book y.events y.leads.failed in
      record {
        drives = record {
          events = y.events;
          last = y.last;
          plays = record { plays = y.plays; failed = failed };
          passed = subst (λ z. follows world z m.world) (asked-calls book y.events failed) y.leads.inner;
          stands = stands book world log m y.events y.leads failed o y.last y.plays.stands r.told y.ends;
        };
        counted = counts book world log m y.events y.leads;
      }
