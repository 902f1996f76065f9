-- How a run ends.
use Rattle.std.proofs.Common.{◌≡◌, refl, ap, subst, ◌∙◌, ℕ, true, List, [], ◌∷◌, map}
use Rattle.std.specs.Prelude.{Option, Some, None}
use Rattle.box_world.specs.Events.{Want}
use Rattle.box_world.specs.declared.world.World.{Ghosts}
use Rattle.awk_text.specs.declared.fault.Fault.TheVariants.{Memory as NoMemory, Log as NoLog}
use Rattle.awk_text.specs.declared.place.Place.{Place}
use Rattle.awk_machine.specs.Advances.{over_by}
use Rattle.awk_machine.specs.Begins.{first_pieces, first_state, nothing}
use Rattle.awk_machine.specs.Laws.{Played}
use Rattle.awk_machine.specs.Pieces as machine
use Rattle.awk_machine.specs.Pieces.{nowhere, Piece, Do, Closing, Enter, Finish, Faulted, Over, ends}
use Rattle.awk_machine.specs.Plays.{Plays, Reaches, Stands, over, lacks}
use Rattle.awk_machine.specs.State as s
use Rattle.awk_machine.specs.State.{State, Course, Given}
use Rattle.awk_machine.specs.Statements.{after_exit}
use Rattle.awk_machine.specs.Streams.{seen}
use Rattle.awk_store.specs.States.{phase_of}
use Rattle.awk_store.specs.declared.phase.Phase.{Phase}
use Rattle.awk_store.specs.declared.phase.Phase.TheVariants as phase
use Rattle.awk_streams.specs.declared.halt.Halt.{Halt}
use Rattle.awk_streams.specs.declared.halt.Halt.TheVariants as halt
use Rattle.awk_streams.specs.Chains.{Lacks, Unlogged}
use Rattle.awk_streams.specs.Tables.{Entry}
use Rattle.awk_store.specs.Wholes.{Whole, Agreeing, base, used}
use Rattle.awk_run.specs.Outcomes.{at_once, goes_to_end, is_before_end, last, last_exit, own, own_fault, own_status}
use Rattle.awk_run.specs.View.{view_outcome}
use Rattle.awk_run.specs.Reports.{Reported}
use Rattle.awk_run.specs.Runs.{Finished, Reached, Stopped}
use Rattle.awk_run.specs.declared.report.Outcome.{Outcome}
use Rattle.awk_run.specs.declared.report.Outcome.TheVariants.{Status, Fault, Cut}
use Rattle.awk_text.specs.declared.fault.Fault as t
use Rattle.awk_run.proofs.PhaseSteps.{finishes, runs_out}

plays_of : {g : Given} {o : machine.Outcome} {last : Option Want} {n : ℕ} (todo : List Piece) (end : State) (c : Course)
    → c.used ≡ n → Reaches g (first_pieces g) (first_state g) nothing todo end c → Stands g todo end c o last
    → Plays g c.events o n last
plays_of {g = g} {o = o} {last = last} todo end c e chain stands = subst (λ m. Plays g c.events o m last) e
    (record { todo = todo; end = end; chain = chain; stands = stands })

none_of : (es : List Entry) → es ≡ [] → map (λ e. e.stream) es ≡ []
none_of es e = rw e refl

module _ {W : Type 0} {ghosts : Ghosts W} {g : Given} {first : W} {now : Whole} {w : W} where
  -- ---- the run is over

  pub played_over : {o : machine.Outcome} {k : List Piece} → Reached ghosts g first (Do (Closing o) ∷ k) now w
      → now.1.entries ≡ [] → Played ghosts.follows ghosts.has_stopped ghosts.stops g first o (used now) w
  played_over {o = o} {k = k} y none = record {
    events = y.course.events;
    last = None;
    plays = plays_of _ _ y.course y.knows.spent y.chain
        (over (ap (λ ss. over_by ss o (seen (base g now y.hidden) y.course)) (y.knows.agrees.tells.streams
        ∙ none_of now.1.entries none)));
    leads = y.knows.leads.leads;
    ends = y.knows.leads.same;
  }

  pub reported_lacking : (place : Place) → Lacks ghosts (base g) (Agreeing g) used g first (first_pieces g)
      (first_state g) nothing now w → Reported ghosts.follows ghosts.has_stopped ghosts.stops g first
      (Faulted NoMemory place) (used now) w
  reported_lacking place y = record {
    told = tt;
    played = record {
      events = y.course.events;
      last = None;
      plays =
          plays_of y.todo y.last y.course y.spent y.chain (y.stands place);
      leads = y.leads.leads;
      ends = y.leads.same;
    };
  }

  pub reported_unlogged : (place : Place) → Unlogged ghosts (base g) (Agreeing g) used g first (first_pieces g)
      (first_state g) nothing place now w → Reported ghosts.follows ghosts.has_stopped ghosts.stops g first
      (Faulted NoLog place) (used now) w
  reported_unlogged place y = record {
    told = tt;
    played = record {
      events = y.course.events;
      last = Some y.want;
      plays = plays_of y.todo y.last y.course y.spent y.chain y.stands;
      leads = y.ended.leads;
      ends = y.ended.stopped;
    };
  }

  -- memory is refused where something is left to be done
  pub lacking_here : (p : Piece) (k : List Piece) → Reached ghosts g first (p ∷ k) now w
      → Lacks ghosts (base g) (Agreeing g) used g first (first_pieces g) (first_state g) nothing now w
  lacking_here p k y = record {
    todo = p ∷ k;
    last = _;
    course = y.course;
    leads = y.knows.leads;
    spent = y.knows.spent;
    chain = y.chain;
    stands = λ place. lacks;
  }

  reported_exit : (phase : s.Phase) (place : Place) → Reached ghosts g first (after_exit phase) now w
      → Reported ghosts.follows ghosts.has_stopped ghosts.stops g first (Faulted NoMemory place) (used now) w
  reported_exit s.Beginning place y = reported_lacking place (lacking_here (Do (Enter s.Ending)) [] y)
  reported_exit s.Ruling place y = reported_lacking place (lacking_here (Do (Enter s.Ending)) [] y)
  reported_exit s.Ending place y = reported_lacking place (lacking_here (Do Finish) [] y)

module _ {W : Type 0} (ghosts : Ghosts W) (g : Given) (first : W) (now : Whole) (w : W) where
  -- a halt at the very end
  pub reported_at_once : (h : Halt) → Stopped ghosts g first h now w
      → Reported ghosts.follows ghosts.has_stopped ghosts.stops g first (view_outcome (at_once h)) (used now) w
  reported_at_once (halt.Fault fault place) y =
      reported_lacking nowhere (lacking_here (Do (Closing (Faulted fault place))) [] y)
  reported_at_once halt.Cut y = reported_lacking nowhere (lacking_here (Do (Closing machine.Cut)) [] y)
  reported_at_once halt.Next y =
      reported_lacking nowhere (lacking_here (Do (Closing (machine.Status (own_status now.0)))) [] (runs_out y))
  reported_at_once halt.Exit y = reported_exit y.phase nowhere y.comes
  reported_at_once halt.Memory y = reported_lacking nowhere y
  reported_at_once (halt.Log place) y = reported_unlogged place y

  -- a run whose streams are shut
  over_by_fault : (fault : t.Fault) (place : Place) (k : List Piece)
      → Reached ghosts g first (Do (Closing (Faulted fault place)) ∷ k) now w → now.1.entries ≡ []
      → Reported ghosts.follows ghosts.has_stopped ghosts.stops g first (view_outcome (own_fault fault place))
      (used now) w
  over_by_fault NoLog place k y none = reported_lacking nowhere (lacking_here (Do (Closing (Faulted NoLog place))) k y)
  over_by_fault fault place k y none = record { played = played_over y none; told = tt }

  pub reported_over : (outcome : Outcome) (k : List Piece)
      → Reached ghosts g first (Do (Closing (view_outcome outcome)) ∷ k) now w → now.1.entries ≡ []
      → Reported ghosts.follows ghosts.has_stopped ghosts.stops g first (view_outcome (own outcome)) (used now) w
  reported_over (Status n) k y none = record { played = played_over y none; told = tt }
  reported_over (Fault fault place) k y none = over_by_fault fault place k y none
  reported_over Cut k y none = record { played = played_over y none; told = tt }

  -- ---- the end of a run's own work

  last_exit_by : (ph : Phase) (found : s.Phase) → phase_of ph ≡ found → Reached ghosts g first (after_exit found) now w
      → Finished ghosts g first (last_exit ph now.0) now w
  last_exit_by phase.Beginning found e y = lacking_here (Do (Enter s.Ending)) [] (rw (← e) at y)
  last_exit_by phase.Ruling found e y = lacking_here (Do (Enter s.Ending)) [] (rw (← e) at y)
  last_exit_by phase.Ending found e y = finishes (rw (← e) at y)

  pub finished_last : (h : Halt) → Stopped ghosts g first h now w → Finished ghosts g first (last h now.0) now w
  finished_last (halt.Fault fault place) y = y
  finished_last halt.Cut y = y
  finished_last halt.Next y = runs_out y
  finished_last halt.Exit y = last_exit_by now.0.phase y.phase y.its_phase y.comes
  finished_last halt.Memory y = y
  finished_last (halt.Log place) y = y

  -- after an `exit` outside of END its actions are left to be done
  exit_by : (ph : Phase) (found : s.Phase) → phase_of ph ≡ found → is_before_end ph ≡ true
      → Reached ghosts g first (after_exit found) now w → Reached ghosts g first (Do (Enter s.Ending) ∷ []) now w
  exit_by phase.Beginning found e f y = rw (← e) at y
  exit_by phase.Ruling found e f y = rw (← e) at y
  exit_by phase.Ending found e f y = absurd (cc)

  pub exits_to_end : (h : Halt) → goes_to_end h now.0.phase ≡ true → Stopped ghosts g first h now w
      → Reached ghosts g first (Do (Enter s.Ending) ∷ []) now w
  exits_to_end (halt.Fault fault place) e y = absurd (cc)
  exits_to_end halt.Cut e y = absurd (cc)
  exits_to_end halt.Next e y = absurd (cc)
  exits_to_end halt.Exit e y = exit_by now.0.phase y.phase y.its_phase e y.comes
  exits_to_end halt.Memory e y = absurd (cc)
  exits_to_end (halt.Log place) e y = absurd (cc)
