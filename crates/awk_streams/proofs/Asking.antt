-- Requests of tasks, over a world.
use Rattle.std.proofs.Common.{◌≡◌, refl, sym, ◌∙◌, ap, ℕ, true, false, true≢false, List, [], ◌∷◌, ◌++◌}
use Rattle.std.specs.Prelude.{Err, Option, Some}
use Rattle.awk_text.specs.declared.place.Place.{Place}
use Rattle.awk_text.specs.declared.fault.Fault.TheVariants.{Output}
use Rattle.box_world.specs.Calls.{Call, IsFitting, open_after}
use Rattle.box_world.specs.declared.ask.Ask.{Ask}
use Rattle.box_world.specs.declared.ask.Reply.{Reply}
use Rattle.box_world.specs.declared.ask.Reply.TheVariants as reply
use Rattle.box_world.specs.declared.ask.Request.{Request}
use Rattle.box_world.specs.declared.ask.Request.TheVariants as request
use Rattle.box_world.specs.Events.{Key, Standard, Named, Writes, Runs, Looks, calls, open_streams, number_of}
use Rattle.box_world.specs.Events.{find_stream}
use Rattle.box_world.specs.declared.world.World.{Ghosts}
use Rattle.awk_program.specs.Slots.{Text}
use Rattle.awk_machine.specs.Builtins.{status_of}
use Rattle.awk_machine.specs.Advances.{advance}
use Rattle.awk_machine.specs.Pieces.{nowhere, Piece, Do, Put, Run, Environ, Asks, Faulted, ends, give}
use Rattle.awk_machine.specs.Moves.{environ_by}
use Rattle.awk_machine.specs.Printing.{unless_failed}
use Rattle.awk_machine.specs.State.{State, Course, Given}
use Rattle.awk_machine.specs.Streams.{want, with_event, seen}
use Rattle.awk_streams.specs.declared.halt.Halt.{Halt}
use Rattle.awk_streams.specs.Chains.{Follows, Leads}
use Rattle.awk_streams.specs.Tables.{Table, open_of}
use Rattle.awk_streams.specs.Tasks.{Answered, Refused, IsTable, IsNumber, beside, MeetsTable, is_failed, looked}
use Rattle.awk_streams.specs.Tasks.{value_given}
use Rattle.awk_streams.proofs.Chain.{Laws, at_once, asked, unanswered}
use Rattle.awk_streams.proofs.Numbers.{fits_alone}

-- ---- what a world's law gives

pub laws_of : {W : Type 0} {ghosts : Ghosts W} →
    ((u v w : W) (xs ys : List Call) → ghosts.follows u xs v → ghosts.follows v ys w → ghosts.follows u (xs ++ ys) w) →
    ((u v w : W) (xs ys : List Call) (ask : Ask) → ghosts.follows u xs v → ghosts.has_stopped v ≡ ghosts.has_stopped u
    → ghosts.stops v ys ask w → ghosts.stops u (xs ++ ys) ask w) →
    ((v w : W) (cs : List Call) → ghosts.follows v cs w → ghosts.open_numbers w ≡ open_after cs (ghosts.open_numbers v))
    → Laws ghosts
laws_of append later opens = record {
  joined = λ u v w xs ys p q. record { leads = append u v w xs ys p.leads q.leads; same = q.same ∙ p.same };
  later = λ u v w xs ys ask p q. record {
    leads = append u v w xs ys p.leads q.leads;
    stopped =
        later u v w xs ys ask p.leads p.same q.stopped;
  };
  opens = opens;
}

-- ---- replies

pub failed_ends : (place : Place) (k : List Piece) (r : Reply) → is_failed r ≡ true
    → unless_failed place k r ≡ ends (Faulted Output place)
failed_ends place k reply.Failed e = refl
failed_ends place k (reply.Opened n) e = absurd (true≢false (sym e))
failed_ends place k (reply.Bytes b) e = absurd (true≢false (sym e))
failed_ends place k reply.End e = absurd (true≢false (sym e))
failed_ends place k reply.Done e = absurd (true≢false (sym e))
failed_ends place k (reply.Status z) e = absurd (true≢false (sym e))
failed_ends place k (reply.Value b) e = absurd (true≢false (sym e))

pub failed_goes : (place : Place) (k : List Piece) (r : Reply) → is_failed r ≡ false → unless_failed place k r ≡ k
failed_goes place k reply.Failed e = absurd (true≢false e)
failed_goes place k (reply.Opened n) e = refl
failed_goes place k (reply.Bytes b) e = refl
failed_goes place k reply.End e = refl
failed_goes place k reply.Done e = refl
failed_goes place k (reply.Status z) e = refl
failed_goes place k (reply.Value b) e = refl

-- ---- streams that stand open

found_in : (c : _) (text : List ℕ) (number : ℕ) (table : Table) (es : _) → open_streams es ≡ open_of table
    → find_stream c text (open_of table) ≡ Some number →
    find_stream c text (open_streams es) ≡ Some number
found_in c text number table es e f = ap (find_stream c text) e ∙ f

pub number_at : (key : Key) (number : ℕ) (table : Table) (taken : Key → ℕ) (c : Course) → IsNumber key number table
    → IsTable table taken c → number_of key (open_streams c.events) ≡ number
number_at (Standard n) number table taken c is a = sym is
number_at (Named k text) number table taken c is a = rw (found_in k text number table c.events a.streams is) refl

put_asks : (g : Given) (s : State) (place : Place) (key : Key) (text : Text) (k : List Piece) (number : ℕ)
    (table : Table) (taken : Key → ℕ) (c : Course) → IsNumber key number table → IsTable table taken c →
    advance g (Do (Put place key text) ∷ k) (seen (beside s table taken) c) ≡ Asks (want place (Writes key text))
    (λ r. unless_failed place k r) (seen (beside s table taken) c)
put_asks g s place (Standard n) text k number table taken c is a = refl
put_asks g s place (Named d t) text k number table taken c is a = rw (found_in d t number table c.events a.streams is)
    refl

-- what is written changes no stream
pub tells_written : (table : Table) (taken : Key → ℕ) (c : Course) (place : Place) (key : Key) (text : Text) (r : Reply)
    → IsTable table taken c → IsTable table taken (with_event (want place (Writes key text)) r c)
tells_written table taken c place key text r a = record {
  streams = a.streams;
  distinct = a.distinct;
  inputs = λ other input e. let x = a.inputs other input e in
      record { unread = x.unread; ended = x.ended; within = x.within };
}

-- nor does a command
tells_ran : (table : Table) (taken : Key → ℕ) (c : Course) (place : Place) (text : Text) (r : Reply)
    → IsTable table taken c → IsTable table taken (with_event (want place (Runs text)) r c)
tells_ran table taken c place text r a = record {
  streams = a.streams;
  distinct = a.distinct;
  inputs = λ other input e. let x = a.inputs other input e in
      record { unread = x.unread; ended = x.ended; within = x.within };
}

-- nor does a look at the environment
tells_looked : (table : Table) (taken : Key → ℕ) (c : Course) (place : Place) (text : Text) (r : Reply)
    → IsTable table taken c → IsTable table taken (with_event (want place (Looks text)) r c)
tells_looked table taken c place text r a = record {
  streams = a.streams;
  distinct = a.distinct;
  inputs = λ other input e. let x = a.inputs other input e in
      record { unread = x.unread; ended = x.ended; within = x.within };
}

pub looks_found : (name : Text) (names : List Text) (k : List Piece) (r : Reply) (found : Option Text)
    → value_given r ≡ found → environ_by name (Do (Environ names) ∷ k) r ≡ looked name names found k
looks_found name names k (reply.Value text) found e = ap (λ o. looked name names o k) e
looks_found name names k (reply.Opened n) found e = ap (λ o. looked name names o k) e
looks_found name names k (reply.Bytes b) found e = ap (λ o. looked name names o k) e
looks_found name names k reply.End found e = ap (λ o. looked name names o k) e
looks_found name names k reply.Done found e = ap (λ o. looked name names o k) e
looks_found name names k (reply.Status z) found e = ap (λ o. looked name names o k) e
looks_found name names k reply.Failed found e = ap (λ o. looked name names o k) e

module _ {W : Type 0} {ghosts : Ghosts W} (laws : Laws ghosts) where
  pub fits_here : (first w : W) (cs : List Call) (q : Request) (r : Reply) → Follows ghosts first cs w
      → IsFitting (ghosts.open_numbers w) q r → IsFitting (open_after cs []) q r
  fits_here first w cs q r led fits = fits_alone cs (ghosts.open_numbers first) q r
      (rw (laws.opens first w cs led.leads) at fits)

  -- a text was put: on with the reply
  pub puts : (g : Given) (s : State) (place : Place) (key : Key) (text : Text) (number : ℕ) (table : Table) (r : Reply)
      (w w' : W) → IsNumber key number table →
      Answered ghosts (record { place = place; given = false; request = request.Put number text }) w r w' →
      Leads ghosts (beside s) IsTable (λ t. s.course.used) g (Do (Put place key text)) table w
      (λ k. unless_failed place k r) table w'
  puts g s place key text number table r w w' is x =
      asked {then_ = λ k r. unless_failed place k r} (want place (Writes key text))
      (record { place = place; given = false; request = request.Put number text }) r laws refl (at_once _ table w)
      (λ first k taken c led a.
      let n = number_at key number table taken c is a in (
        taken,
        put_asks g s place key text k number table taken c is a,
        fits_here first w (calls c.events)
            (request.Put number text) r led x.fits,
        rw n refl,
        tells_written table taken c place key text r a,
      ))
      x.call

  -- it was not put
  pub put_refused : (g : Given) (s : State) (place : Place) (key : Key) (text : Text) (number : ℕ) (table : Table)
      (h : Halt) (w w' : W) {A : Type 0} {on : A → List Piece → List Piece} → IsNumber key number table →
      Refused ghosts (record { place = place; given = false; request = request.Put number text }) w h w' →
      MeetsTable ghosts g s (Do (Put place key text)) on table w (Err h) table w'
  put_refused g s place key text number table h w w' is x =
      rw x.is (unanswered {then_ = λ k r. unless_failed place k r} (want place (Writes key text))
      (record { place = place; given = false; request = request.Put number text }) x.by laws (at_once _ table w)
      (λ k taken c a. let n = number_at key number table taken c is a in
      (seen (beside s table taken) c, put_asks g s place key text k number table taken c is a, rw n refl))
      x.memory x.log)

  -- a command was run, or not
  pub runs : (g : Given) (s : State) (place : Place) (text : Text) (table : Table) (r : Reply) (w w' : W) →
      Answered ghosts (record { place = place; given = false; request = request.System text }) w r w' →
      Leads ghosts (beside s) IsTable (λ t. s.course.used) g (Do (Run place text)) table w (λ k. give (status_of r) k)
      table w'
  runs g s place text table r w w' y =
      asked {then_ = λ k r. give (status_of r) k} (want place (Runs text))
      (record { place = place; given = false; request = request.System text }) r laws refl (at_once _ table w)
      (λ first k taken c led a. (
        taken,
        refl,
        fits_here first w (calls c.events) (request.System text) r led y.fits,
        refl,
        tells_ran table taken c place text r a,
      ))
      y.call

  pub run_refused : (g : Given) (s : State) (place : Place) (text : Text) (table : Table) (h : Halt)
      (w w' : W) {A : Type 0} {on : A → List Piece → List Piece} →
      Refused ghosts (record { place = place; given = false; request = request.System text }) w h w' →
      MeetsTable ghosts g s (Do (Run place text)) on table w (Err h) table w'
  run_refused g s place text table h w w' y =
      rw y.is (unanswered {then_ = λ k r. give (status_of r) k} (want place (Runs text))
      (record { place = place; given = false; request = request.System text }) y.by laws (at_once _ table w)
      (λ k taken c a. (seen (beside s table taken) c, refl, refl))
      y.memory y.log)

  -- a name of the environment was looked up, or not
  pub looks : (g : Given) (s : State) (name : Text) (names : List Text) (table : Table) (r : Reply) (w w' : W) →
      Answered ghosts (record { place = nowhere; given = false; request = request.Env name }) w r w' →
      Leads ghosts (beside s) IsTable (λ t. s.course.used) g (Do (Environ (name ∷ names))) table w
      (λ k. environ_by name (Do (Environ names) ∷ k) r) table w'
  looks g s name names table r w w' y =
      asked {then_ = λ k r. environ_by name (Do (Environ names) ∷ k) r} (want nowhere (Looks name))
      (record { place = nowhere; given = false; request = request.Env name }) r laws refl (at_once _ table w)
      (λ first k taken c led a. (
        taken,
        refl,
        fits_here first w (calls c.events) (request.Env name) r led y.fits,
        refl,
        tells_looked table taken c nowhere name r a,
      ))
      y.call

  pub look_refused : (g : Given) (s : State) (name : Text) (names : List Text) (table : Table) (h : Halt)
      (w w' : W) {A : Type 0} {on : A → List Piece → List Piece} →
      Refused ghosts (record { place = nowhere; given = false; request = request.Env name }) w h w' →
      MeetsTable ghosts g s (Do (Environ (name ∷ names))) on table w (Err h) table w'
  look_refused g s name names table h w w' y =
      rw y.is (unanswered {then_ = λ k r. environ_by name (Do (Environ names) ∷ k) r} (want nowhere (Looks name))
      (record { place = nowhere; given = false; request = request.Env name }) y.by laws (at_once _ table w)
      (λ k taken c a. (seen (beside s table taken) c, refl, refl))
      y.memory y.log)
