-- The moves of a reading that ask for more.
use Rattle.std.proofs.Common.{◌≡◌, inl, inr, refl, sym, ◌∙◌, ap, subst, arith, ℕ, ◌-◌, Bool, true, false, true≢false}
use Rattle.std.proofs.Common.{List, [], ◌∷◌, ◌++◌, length}
use Rattle.std.specs.Prelude.{Option, Some, None, is_some, Ok, Err, codes, if◌then◌else◌}
use Rattle.awk_text.specs.declared.place.Place.{Place}
use Rattle.awk_fields.specs.Heads.{Head, taken, need_more, done, too_long, head}
use Rattle.awk_fields.specs.Takes.{Input}
use Rattle.box_world.specs.Calls.{IsFitting}
use Rattle.box_world.specs.declared.ask.Reply.{Reply}
use Rattle.box_world.specs.declared.ask.Reply.TheVariants as reply
use Rattle.box_world.specs.declared.ask.Request.TheVariants as request
use Rattle.box_world.specs.Events.{Key, Standard, Reads, calls}
use Rattle.box_world.specs.declared.world.World.{Ghosts}
use Rattle.awk_program.specs.Slots.{Text}
use Rattle.awk_machine.specs.Advances.{advance, asked_by, held}
use Rattle.awk_machine.specs.Getline.{read_by, read_on}
use Rattle.awk_machine.specs.Pieces as machine
use Rattle.awk_machine.specs.Pieces.{Piece, Do, Asks}
use Rattle.awk_machine.specs.State.{State, Course, Given}
use Rattle.awk_machine.specs.Streams.{came, same_key, seen, want, with_event}
use Rattle.awk_machine.specs.Variables.{own_text}
use Rattle.awk_streams.specs.declared.halt.Halt.{Halt}
use Rattle.awk_streams.specs.declared.halt.Halt.TheVariants as halt
use Rattle.awk_streams.specs.declared.getline.NextRecord.{NextRecord}
use Rattle.awk_streams.specs.declared.inputs.InputStream.{InputStream}
use Rattle.awk_streams.specs.Chains.{Leads, Meets}
use Rattle.awk_streams.specs.Readings.{FailsFirst, FailsOpen, FirstIs, GoesOn, HasCome, IsReading, Received, Waits}
use Rattle.awk_streams.specs.Readings.{further, gives_read, key_of, read_further}
use Rattle.awk_streams.specs.Tables.{Table}
use Rattle.awk_streams.specs.Tasks.{Answered, Refused, IsTable, IsNumber, IsReadAt, IsSame, Owns, beside, MeetsTable}
use Rattle.awk_streams.specs.Tasks.{fetched}
use Rattle.awk_streams.specs.Tasks.{goes_on, input_at}
use Rattle.awk_streams.proofs.Asking.{fits_here, number_at}
use Rattle.awk_streams.proofs.Chain.{Laws, asked, at_once, changes, closed, done as finished, lacking, settled, turned}
use Rattle.awk_streams.proofs.Chain.{unanswered}
use Rattle.awk_streams.proofs.Firsts.{behind, drop_all, waits_on}
use Rattle.awk_streams.proofs.Lives.{goes_on_same, input_read, live_in, owns_read, read_standard, read_with, table_with}
use Rattle.awk_streams.proofs.Lives.{tells_unread}
use Rattle.awk_streams.proofs.Opened.{some_is, tells_same}
use Rattle.awk_streams.proofs.Reading.{tells_bytes, tells_end, tells_taken}
use Rattle.awk_streams.proofs.Records.{head_moves, reads_record, reads_end, reads_long}

-- ---- what came

-- a reading that failed changes no stream
tells_failed : (place : Place) (key : Key) (table : Table) (t : Key → ℕ) (c : Course) → IsTable table t c
    → IsTable table t (with_event (want place (Reads key)) reply.Failed c)
tells_failed place key table t c a = record {
  streams = a.streams;
  distinct = a.distinct;
  inputs = λ other input e. let x = a.inputs other input e in
      record { unread = x.unread; ended = x.ended; within = x.within };
}

tells_reply : (place : Place) (key : Key) (old new : Table) (t : Key → ℕ) (c : Course) (before : Input) (r : Reply)
    (on : Bool) (number : ℕ) (numbers : List ℕ) → IsFitting numbers (request.Next number) r → before.ended ≡ false →
    input_at key old ≡ Some before → Received key old new before r on → IsTable old t c
    → IsTable new t (with_event (want place (Reads key)) r c)
tells_reply place key old new t c before (reply.Bytes b) on number numbers f open_ live x a =
    tells_bytes place key old new t c a before live b open_ x.1
tells_reply place key old new t c before reply.End on number numbers f open_ live x a =
    tells_end place key old new t c a before live x.1
tells_reply place key old new t c before reply.Failed on number numbers f open_ live x a =
    tells_same old new t (with_event (want place (Reads key)) reply.Failed c) x.1 (tells_failed place key old t c a)
tells_reply place key old new t c before (reply.Opened n) on number numbers f open_ live x a = absurd f
tells_reply place key old new t c before reply.Done on number numbers f open_ live x a = absurd f
tells_reply place key old new t c before (reply.Status z) on number numbers f open_ live x a = absurd f
tells_reply place key old new t c before (reply.Value b) on number numbers f open_ live x a = absurd f

-- and how the reading goes on
onward : {g : Given} {s : State} {p : Piece} {place : Place} {key : Key} {to : NextRecord → List Piece → List Piece}
    (form : IsReading g s p place key to) (old new : Table) (before : Input) (r : Reply) (on : Bool) (number : ℕ)
    (numbers : List ℕ) (k : List Piece) →
    IsFitting numbers (request.Next number) r → Received key old new before r on → form.then_ k r ≡ further p to on k
onward {p = p} {to = to} form old new before (reply.Bytes b) on number numbers k f x = form.again k b
    ∙ ap (λ y. further p to y k) (sym x.0)
onward {p = p} {to = to} form old new before reply.End on number numbers k f x =
    form.ended k ∙ ap (λ y. further p to y k) (sym x.0)
onward {p = p} {to = to} form old new before reply.Failed on number numbers k f x =
    form.failed k ∙ ap (λ y. further p to y k) (sym x.0)
onward form old new before (reply.Opened n) on number numbers k f x = absurd f
onward form old new before reply.Done on number numbers k f x = absurd f
onward form old new before (reply.Status z) on number numbers k f x = absurd f
onward form old new before (reply.Value b) on number numbers k f x = absurd f

-- some bytes came, wherever they are held
come : (s : InputStream) (before : Input) (old : Table) (r : Reply) → HasCome r → input_at (key_of s) old ≡ Some before
    → (new : Table) × Received (key_of s) old new before r true
come s before old (reply.Bytes b) h live = (
  table_with s (record { unread = before.unread ++ b; ended = false }) old,
  (refl, read_with s (record { unread = before.unread ++ b; ended = false }) before old live),
)
come s before old reply.End h live = absurd h
come s before old reply.Failed h live = absurd h
come s before old (reply.Opened n) h live = absurd h
come s before old reply.Done h live = absurd h
come s before old (reply.Status z) h live = absurd h
come s before old (reply.Value b) h live = absurd h

-- what holds whatever came
pub received_so : {P : Type 0} (key : Key) (old new : Table) (before : Input) (r : Reply) (on : Bool)
    → ((i : Input) → IsReadAt key i old new → P) → (IsSame old new → P) → Received key old new before r on → P
received_so key old new before (reply.Bytes b) on f h x = f _ x.1
received_so key old new before reply.End on f h x = f _ x.1
received_so key old new before reply.Failed on f h x = h x.1
received_so key old new before (reply.Opened n) on f h x = h x.1
received_so key old new before reply.Done on f h x = h x.1
received_so key old new before (reply.Status z) on f h x = h x.1
received_so key old new before (reply.Value b) on f h x = h x.1

-- what is no bytes and no end
pub received_none : (key : Key) (table : Table) (i : Input) (r : Reply) → ((b : List ℕ) → r ≡ reply.Bytes b → ⊥)
    → (r ≡ reply.End → ⊥) → Received key table table i r false
received_none key table i (reply.Bytes b) f h = absurd (f b refl)
received_none key table i reply.End f h = absurd (h refl)
received_none key table i reply.Failed f h = (refl, record { entries = refl; input = refl })
received_none key table i (reply.Opened n) f h = (refl, record { entries = refl; input = refl })
received_none key table i reply.Done f h = (refl, record { entries = refl; input = refl })
received_none key table i (reply.Status z) f h = (refl, record { entries = refl; input = refl })
received_none key table i (reply.Value b) f h = (refl, record { entries = refl; input = refl })

-- a stream is open to be read, or can't be opened
pub fetched_so : (place : Place) (key : Key) (found : Option ℕ) (k : List Piece)
    → fetched place key found k ≡ read_further place key (is_some found) k
fetched_so place key (Some n) k = refl
fetched_so place key None k = refl

-- getline reads so
pub reads_so : (g : Given) (s : State) (place : Place) (key : Key)
    → IsReading g s (Do (machine.Read place key)) place key gives_read
reads_so g s place key = record {
  by_head = read_by place key;
  then_ = λ k r. read_on place key k r;
  moves = λ k table t c. refl;
  takes = λ text rest k t. refl;
  ends = λ k t. refl;
  faults = λ k t. refl;
  asks = λ k t. refl;
  again = λ k b. refl;
  ended = λ k. refl;
  failed = λ k. refl;
}

-- ---- the machine asks

module _ {W : Type 0} {ghosts : Ghosts W} (laws : Laws ghosts)
    (g : Given) (s : State) (p : Piece) (place : Place) (source : InputStream) (to : NextRecord → List Piece
    → List Piece) (form : IsReading g s p place (key_of source) to) (number : ℕ) (old : Table)
    (is : IsNumber (key_of source) number old)
    (before : Input) (live : input_at (key_of source) old ≡ Some before)
    (waits : head (own_text s (codes "RS")) before.unread before.ended ≡ need_more) where
  read_asks : (w : W) (k : List Piece) (t : Key → ℕ) (c : Course) → IsTable old t c →
      advance g (p ∷ k) (seen (beside s old t) c) ≡ Asks (want place (Reads (key_of source))) (form.then_ k)
      (seen (beside s old t) c)
  read_asks w k t c a =
      head_moves ghosts g s place (key_of source) (own_text s (codes "RS")) refl old before live form (at_once p old w)
      need_more waits k t c a
      ∙ ap (held g (seen (beside s old t) c)) (form.asks k (seen (beside s old t) c))
      ∙ ap (λ b. asked_by (if b then None else Some reply.Failed) (want place (Reads (key_of source))) (form.then_ k)
      (seen (beside s old t) c)) (live_in (key_of source) old t c (before, live) a)

  reads_more : (new : Table) (r : Reply) (on : Bool) (w w' : W) → before.ended ≡ false
      → Received (key_of source) old new before r on →
      Answered ghosts (record { place = place; given = false; request = request.Next number }) w r w' →
      Leads ghosts (beside s) IsTable (λ t. s.course.used) g p old w (further p to on) new w'
  reads_more new r on w w' open_ got x =
      turned (asked {then_ = form.then_} (want place (Reads (key_of source)))
      (record { place = place; given = false; request = request.Next number }) r laws refl (at_once p old w)
      (λ first k t c led a.
      let n = number_at (key_of source) number old t c is a in (
        t,
        read_asks w k t c a,
        fits_here laws first w (calls c.events) (request.Next number) r led x.fits,
        rw n refl,
        tells_reply place (key_of source) old new t c before r on number (ghosts.open_numbers w) x.fits open_ live got
            a,
      ))
      x.call)
      (λ k. onward form old new before r on number (ghosts.open_numbers w) k x.fits got)

  pub read_received : (new : Table) (r : Reply) (on : Bool) (w w' : W) → before.ended ≡ false
      → Received (key_of source) old new before r on →
      Answered ghosts (record { place = place; given = false; request = request.Next number }) w r w' →
      MeetsTable ghosts g s p (further p to) old w (Ok on) new w'
  read_received new r on w w' open_ got x = finished (reads_more new r on w w' open_ got x)

  -- what came can't be held
  pub read_lacks : {A : Type 0} {on : A → List Piece → List Piece} (new : Table) (r : Reply) (w w' : W)
      → before.ended ≡ false → HasCome r →
      Answered ghosts (record { place = place; given = false; request = request.Next number }) w r w' →
      MeetsTable ghosts g s p on old w (Err halt.Memory) new w'
  read_lacks {on = on} new r w w' open_ has x = record {
    plays = λ first k hid c a.
        let held_ = come source before old r has live in
        let y = (lacking {on = on} (reads_more held_.0 r true w w' open_ held_.1 x)).plays first k hid c a in
        record {
          todo = y.todo;
          last = y.last;
          course = y.course;
          leads = y.leads;
          spent = y.spent;
          chain = y.chain;
          stands = y.stands;
        };
  }

  pub read_refused : {A : Type 0} {on : A → List Piece → List Piece} (h : Halt) (w w' : W) →
      Refused ghosts (record { place = place; given = false; request = request.Next number }) w h w' →
      MeetsTable ghosts g s p on old w (Err h) old w'
  read_refused h w w' x =
      rw x.is (unanswered {then_ = form.then_} (want place (Reads (key_of source)))
      (record { place = place; given = false; request = request.Next number }) x.by laws (at_once p old w)
      (λ k t c a. let n = number_at (key_of source) number old t c is a in
      (seen (beside s old t) c, read_asks w k t c a, rw n refl))
      x.memory x.log)

-- ---- the first record, once the machine stands before the reading

module _ {W : Type 0} (ghosts : Ghosts W) (g : Given) (s : State) (place : Place) (key : Key) (rs : Text)
    (rs_is : own_text s (codes "RS") ≡ rs)
    (mid new : Table) (before : Input) (live : input_at key mid ≡ Some before) {p q : Piece} {to : NextRecord
    → List Piece → List Piece} (form : IsReading g s q place key to) {old : Table} {first w : W}
    (lead : Leads ghosts (beside s) IsTable (λ t. s.course.used) g p old first (λ k. q ∷ k) mid w) where
  gives_first : (h : Head) (x : NextRecord) → head rs before.unread before.ended ≡ h
      → FirstIs key mid new before h (Some x) →
      Leads ghosts (beside s) IsTable (λ t. s.course.used) g p old first (λ k. to x k) new w
  gives_first (taken text rest) x e y =
      let b = behind rs before.unread before.ended text rest e in
      let z = reads_record ghosts g s place key rs rs_is mid before live form lead text rest b.0 new e b.1 y.1 in
      turned z (λ k. ap (λ u. to u k) (sym y.0))
  gives_first need_more x e y = absurd y
  gives_first done x e y =
      let z = settled refl (λ hid. refl) (λ hid c a. tells_unread key mid new hid c before live y.1 a)
      (reads_end ghosts g s place key rs rs_is mid before live form lead e) in
      turned z (λ k. ap (λ u. to u k) (sym y.0))
  gives_first too_long x e y = absurd y

  pub gives : (x : NextRecord) → FirstIs key mid new before (head rs before.unread before.ended) (Some x)
      → Meets ghosts (beside s) IsTable (λ t. s.course.used) g p to old first (Ok x) new w
  gives x y = finished (gives_first (head rs before.unread before.ended) x refl y)

  -- none is whole: more is waited for
  waits_by : (h : Head) → head rs before.unread before.ended ≡ h → FirstIs key mid new before h None
      → (head rs before.unread before.ended ≡ need_more) × IsReadAt key before mid new
  waits_by (taken text rest) e y = absurd y
  waits_by need_more e y = (e, y)
  waits_by done e y = absurd y
  waits_by too_long e y = absurd y

  pub still_reads : FirstIs key mid new before (head rs before.unread before.ended) None
      → Leads ghosts (beside s) IsTable (λ t. s.course.used) g p old first (λ k. q ∷ k) new w
  still_reads y =
      let x = waits_by (head rs before.unread before.ended) refl y in
      settled refl (λ hid. refl) (λ hid c a. tells_unread key mid new hid c before live x.1 a) lead

  pub fails : {A : Type 0} {on : A → List Piece → List Piece} (h : Halt) → IsSame mid new
      → FailsFirst place (head rs before.unread before.ended) h →
      Meets ghosts (beside s) IsTable (λ t. s.course.used) g p on old first (Err h) new w
  fails h same (inl e) = rw e (lacking (settled refl (λ hid. refl) (λ hid c a. tells_same mid new hid c same a) lead))
  fails h same (inr x) =
      rw x.0 (closed (settled refl (λ hid. refl) (λ hid c a. tells_same mid new hid c same a)
      (reads_long ghosts g s place key rs rs_is mid before live form lead x.1)))

pub waits_first : (key : Key) (old new : Table) (before : Input) (h : Head) → FirstIs key old new before h None
    → (h ≡ need_more) × IsReadAt key before old new
waits_first key old new before (taken text rest) y = absurd y
waits_first key old new before need_more y = (refl, y)
waits_first key old new before done y = absurd y
waits_first key old new before too_long y = absurd y

-- so its end has not come, and more is waited for
pub first_waits : (key : Key) (old new : Table) (before : Input) (rs : Text)
    → FirstIs key old new before (head rs before.unread before.ended) None → GoesOn key new × Waits rs key new
first_waits key old new before rs y = (
  λ i live. subst (λ z. z.ended ≡ false) (same i live) (waits_on rs before.unread before.ended x.0),
  λ i live. subst (λ z. head rs z.unread z.ended ≡ need_more) (same i live) x.0,
)
  where
    x : (head rs before.unread before.ended ≡ need_more) × IsReadAt key before old new
    x = waits_first key old new before (head rs before.unread before.ended) y

    same : (i : Input) → input_at key new ≡ Some i → before ≡ i
    same i live = some_is before i (sym (input_read key before old new x.1) ∙ live)

-- the numbers of the table are the same
pub first_owns : (numbers : List ℕ) (key : Key) (old new : Table) (before : Input) (h : Head)
    (answer : Option NextRecord) → FirstIs key old new before h answer → Owns numbers old → Owns numbers new
first_owns numbers key old new before (taken text rest) (Some x) y owns = owns_read numbers key _ old new y.1 owns
first_owns numbers key old new before (taken text rest) None y owns = absurd y
first_owns numbers key old new before need_more (Some x) y owns = absurd y
first_owns numbers key old new before need_more None y owns = owns_read numbers key before old new y owns
first_owns numbers key old new before done (Some x) y owns = owns_read numbers key before old new y.1 owns
first_owns numbers key old new before done None y owns = absurd y
first_owns numbers key old new before too_long (Some x) y owns = absurd y
first_owns numbers key old new before too_long None y owns = absurd y

-- a stream that could not be read goes on
pub goes_on_received : (key : Key) (old new : Table) (before : Input) (r : Reply) (on : Bool)
    → Received key old new before r on → on ≡ false → GoesOn key old → GoesOn key new
goes_on_received key old new before (reply.Bytes b) on x e open_ = absurd (true≢false (sym x.0 ∙ e))
goes_on_received key old new before reply.End on x e open_ = absurd (true≢false (sym x.0 ∙ e))
goes_on_received key old new before reply.Failed on x e open_ = goes_on_same key old new x.1 open_
goes_on_received key old new before (reply.Opened n) on x e open_ = goes_on_same key old new x.1 open_
goes_on_received key old new before reply.Done on x e open_ = goes_on_same key old new x.1 open_
goes_on_received key old new before (reply.Status z) on x e open_ = goes_on_same key old new x.1 open_
goes_on_received key old new before (reply.Value b) on x e open_ = goes_on_same key old new x.1 open_

-- what stands first is no failure
pub first_opens : (key : Key) (old new : Table) (before : Input) (h : Head) (x : NextRecord)
    → FirstIs key old new before h (Some x) → FailsOpen key x new
first_opens key old new before (taken text rest) x y = rw y.0 tt
first_opens key old new before need_more x y = absurd y
first_opens key old new before done x y = rw y.0 tt
first_opens key old new before too_long x y = absurd y

-- ---- what is held unread of the standard input is dropped

minus_nothing : (n : ℕ) → n - length {A = ℕ} [] ≡ n
minus_nothing n = omega arith

pub forgets : {W : Type 0} (ghosts : Ghosts W) (g : Given) (s : State) (old new : Table) (w : W)
    → GoesOn (Standard 0) old → new.entries ≡ old.entries → new.input ≡ record { unread = []; ended = false } →
    Meets ghosts (beside s) IsTable (λ t. s.course.used) g (Do (machine.Forget (Standard 0))) (goes_on {A = Unit
    {0}}) old
    w (Ok (tt {0})) new w
forgets ghosts g s old new w open_ es is = finished (changes refl (at_once _ old w) (λ k t c a. (
  λ other. if same_key (Standard 0) other then length (came (Standard 0) c.events) else t other,
  subst (λ n. IsTable new (λ other. if same_key (Standard 0) other then n else t other) c)
      (minus_nothing (length (came (Standard 0) c.events)))
      (tells_taken (Standard 0) old new t c old.input [] (length old.input.unread) a refl
      (sym (drop_all old.input.unread)) (read_standard (record { unread = []; ended = old.input.ended }) old new es
      (is ∙ ap (λ b. record { unread = []; ended = b }) (sym (open_ old.input refl))))),
  refl,
)))
