-- A stream is shut: the table and the events stay of one mind.
use Rattle.std.proofs.Common.{◌≡◌, refl, sym, ◌∙◌, ap, nat_eq, ℕ, ◌==◌, Bool, true, false, List, [], ◌∷◌, map}
use Rattle.std.specs.Prelude.{Some, None, if◌then◌else◌}
use Rattle.std.proofs.Common.{◌≤◌, arith, slice_get, drop, inr}
use Rattle.std.specs.Prelude.{option_map, unwrap_or, is_some, Err}
use Rattle.std.proofs.lemmas.Bool.Decides.{nat_tests}
use Rattle.awk_text.specs.declared.place.Place.{Place}
use Rattle.awk_fields.specs.Takes.{Input}
use Rattle.box_world.specs.Calls.{IsStream, numbers_after}
use Rattle.box_world.specs.declared.ask.Reply.{Reply}
use Rattle.box_world.specs.declared.ask.Reply.TheVariants as reply
use Rattle.box_world.specs.declared.ask.Request.TheVariants as request
use Rattle.box_world.specs.Events.{Class, Key, Standard, Named, Shuts, calls, no_stream, number_of, find_stream}
use Rattle.box_world.specs.Events.{is_named, open_streams, without_stream}
use Rattle.box_world.specs.declared.world.World.{Ghosts}
use Rattle.awk_program.specs.Slots.{Text}
use Rattle.awk_machine.specs.Advances.{advance, asked_by, over_by}
use Rattle.awk_machine.specs.Pieces.{Piece, Do, Closing, Asks, Outcome, ends, nowhere}
use Rattle.awk_machine.specs.State.{Course, Given, State}
use Rattle.awk_machine.specs.Streams.{seen, want, with_event}
use Rattle.awk_streams.specs.declared.halt.Halt.{Halt}
use Rattle.awk_streams.specs.Chains.{Leads, Meets}
use Rattle.awk_streams.specs.Tables.{Table, Entry, open_of, find_input}
use Rattle.awk_streams.specs.Tasks.{Answered, Refused, Distinct, IsTable, IsRead, Owns, beside, closing, left_of}
use Rattle.awk_streams.specs.Tasks.{input_at, one_if, times}
use Rattle.awk_streams.proofs.Asking.{fits_here}
use Rattle.awk_streams.proofs.Chain.{Laws, asked, unanswered}
use Rattle.awk_streams.proofs.Numbers.{among_all, times-without}
use Rattle.awk_streams.proofs.Opened.{named_self, none_named, some_is}

hidden_by : (d : Class) (t : Text) (e : Entry) (es : List Entry) (input : Input) (b : Bool) → is_named d t e.stream ≡ b
    → (is_named d t e.stream ≡ true → find_input d t es ≡ None) →
    find_input d t es ≡ Some input → (if b then Some e.input else find_input d t es) ≡ Some input
hidden_by d t e es input true f none h = let n = none f in absurd (cc)
hidden_by d t e es input false f none h = h

-- the first of the streams is shut
pub tells_shut : (place : Place) (e : Entry) (es : List Entry) (old new : Table) (taken : Key → ℕ) (co : Course)
    (r : Reply) → old.entries ≡ e ∷ es → new.entries ≡ es → new.input ≡ old.input → IsTable old taken co →
    IsTable new taken (with_event (want place (Shuts (Named e.stream.class e.stream.text))) r co)
tells_shut place e es old new taken co r i j same a = record { streams = streams; distinct = distinct; inputs = inputs }
  where
    all : open_of old ≡ e.stream ∷ map (λ x. x.stream) es
    all = ap (map (λ x. x.stream)) i

    one : without_stream e.stream.class e.stream.text (e.stream ∷ map (λ x. x.stream) es) ≡ map (λ x. x.stream) es
    one = ap (λ b. if b then map (λ x. x.stream) es else e.stream ∷ without_stream e.stream.class e.stream.text
        (map (λ x. x.stream) es)) (named_self e.stream.class e.stream.text e.stream.number)

    streams : without_stream e.stream.class e.stream.text (open_streams co.events) ≡ open_of new
    streams = ap (without_stream e.stream.class e.stream.text) (a.streams ∙ all) ∙ one ∙ ap (map (λ x. x.stream))
        (sym j)

    one_less : Distinct (e.stream ∷ map (λ x. x.stream) es)
    one_less = rw all at a.distinct

    distinct : Distinct (open_of new)
    distinct = rw j one_less.1

    inputs : (key : Key) (input : Input) → input_at key new ≡ Some input
        → IsRead key input (taken key) (with_event (want place (Shuts (Named e.stream.class e.stream.text))) r co)
    inputs (Standard m) input h =
        let x = a.inputs (Standard m) input (sym (ap (λ y. if m == 0 then Some y else None) same) ∙ h) in
        record { unread = x.unread; ended = x.ended; within = x.within }
    inputs (Named d t) input h =
        let f : find_input d t (e ∷ es) ≡ Some input = hidden_by d t e es input (is_named d t e.stream) refl
        (λ n. none_named d t e.stream es n one_less.0) (sym (ap (find_input d t) j) ∙ h) in
        let x = a.inputs (Named d t) input (ap (find_input d t) i ∙ f) in
        record { unread = x.unread; ended = x.ended; within = x.within }

-- ---- the end

-- the first entry
first_of : (table : Table) (n : ℕ) → option_map (λ e. e.stream.number) (slice_get table.entries 0) ≡ Some n
    → (e : Entry) × (table.entries ≡ e ∷ drop 1 table.entries) × (e.stream.number ≡ n)
first_of table n h = by table.entries h
  where
    by : (es : List Entry) → option_map (λ e. e.stream.number) (slice_get es 0) ≡ Some n → (e : Entry)
        × (es ≡ e ∷ drop 1 es) × (e.stream.number ≡ n)
    by [] h = absurd (cc)
    by (e ∷ es) h = (e, refl, some_is e.stream.number n h)

pub first_none : (es : List Entry) → option_map (λ e. e.stream.number) (slice_get es 0) ≡ None → es ≡ []
first_none [] h = refl
first_none (e ∷ es) h = absurd (cc)

-- the number of the first is a stream of the world
pub first_duty : (numbers : List ℕ) (table : Table) (n : ℕ)
    → option_map (λ e. e.stream.number) (slice_get table.entries 0) ≡ Some n → Owns numbers table → IsStream numbers n
first_duty numbers table n h owns =
    let f = first_of table n h in
    let o : times n (map (λ s. s.number) (f.0.stream ∷ map (λ x. x.stream) (drop 1 table.entries))) ≤ times n numbers =
    rw f.1 at (owns n) in
    let e : nat_eq f.0.stream.number n ≡ true = let i = f.2 in grind (arith, nat_tests) in
    let one : one_if (nat_eq f.0.stream.number n) ≡ 1 = ap one_if e in
    inr (among_all n numbers (omega (arith, o, one)))

-- and without it the rest are open
pub first_owns : (numbers after : List ℕ) (table new : Table) (n : ℕ) (r : Reply)
    → option_map (λ e. e.stream.number) (slice_get table.entries 0) ≡ Some n → new.entries ≡ drop 1 table.entries →
    after ≡ numbers_after (request.Shut n) r numbers → Owns numbers table → Owns after new
first_owns numbers after table new n r h j is owns = λ m.
    let f = first_of table n h in
    let o : times m (map (λ s. s.number) (f.0.stream ∷ map (λ x. x.stream) (drop 1 table.entries))) ≤ times m numbers =
    rw f.1 at (owns m) in
    let i : one_if (nat_eq f.0.stream.number m) ≡ one_if (nat_eq n m) = ap (λ k. one_if (nat_eq k m)) f.2 in
    rw (is, j, times-without n m numbers) (omega (arith, o, i))

module _ {W : Type 0} {ghosts : Ghosts W} (laws : Laws ghosts) (g : Given) (s : State) (o : Outcome) where
  number_first : (e : Entry) (es : List Entry) (table : Table) (taken : Key → ℕ) (co : Course) → table.entries ≡ e ∷ es
      → IsTable table taken co → open_streams co.events ≡ e.stream ∷ map (λ x. x.stream) es
  number_first e es table taken co i a = a.streams ∙ ap (map (λ x. x.stream)) i

  shuts : (k : List Piece) (e : Entry) (es : List Entry) (table : Table) (taken : Key → ℕ) (co : Course)
      → table.entries ≡ e ∷ es → IsTable table taken co →
      advance g (Do (Closing o) ∷ k) (seen (beside s table taken) co)
      ≡ Asks (want nowhere (Shuts (Named e.stream.class e.stream.text))) (λ r. ends o)
      (seen (beside s table taken) co)
  shuts k e es table taken co i a =
      let w = want nowhere (Shuts (Named e.stream.class e.stream.text)) in
      let t = seen (beside s table taken) co in
      let n = number_first e es table taken co i a in
      let f : find_stream e.stream.class e.stream.text (open_streams co.events) ≡ Some e.stream.number =
      ap (find_stream e.stream.class e.stream.text) n
      ∙ ap (λ b. if b then Some e.stream.number else find_stream e.stream.class e.stream.text
      (map (λ x. x.stream) es)) (named_self e.stream.class e.stream.text e.stream.number) in
      ap (λ ss. over_by ss o t) n ∙ ap (λ p. asked_by (if is_some p then None else Some reply.Failed) w (λ r. ends o) t)
      f

  asks_shut : (e : Entry) (es : List Entry) (table : Table) (taken : Key → ℕ) (co : Course) (n : ℕ)
      → table.entries ≡ e ∷ es → e.stream.number ≡ n → IsTable table taken co →
      number_of (Named e.stream.class e.stream.text) (open_streams co.events) ≡ n
  asks_shut e es table taken co n i j a =
      ap (λ ss. unwrap_or (find_stream e.stream.class e.stream.text ss) no_stream)
      (number_first e es table taken co i a)
      ∙ ap (λ b. unwrap_or (if b then Some e.stream.number else find_stream e.stream.class e.stream.text
      (map (λ x. x.stream) es)) no_stream) (named_self e.stream.class e.stream.text e.stream.number) ∙ j

  pub shut_one : {p : Piece} {old : Table} {first : W} (any : Bool) (table new : Table) (n : ℕ) (r : Reply) (w w' : W)
      → option_map (λ e. e.stream.number) (slice_get table.entries 0) ≡ Some n →
      new.entries ≡ drop 1 table.entries → new.input ≡ table.input
      → Answered ghosts (record { place = nowhere; given = false; request = request.Shut n }) w r w' →
      Leads ghosts (beside s) IsTable (λ t. s.course.used) g p old first (closing o any) table w →
      Leads ghosts (beside s) IsTable (λ t. s.course.used) g p old first (closing o true) new w'
  shut_one any table new n r w w' h j same x lead =
      let f = first_of table n h in
      asked {to = closing o any} {then_ = λ k r. ends o} (want nowhere (Shuts (Named f.0.stream.class f.0.stream.text)))
      (record { place = nowhere; given = false; request = request.Shut n }) r laws refl lead
      (λ begin k taken co led a. (
        taken,
        shuts (left_of any k) f.0 (drop 1 table.entries) table taken co f.1 a,
        fits_here laws begin w (calls co.events) (request.Shut n) r led x.fits,
        ap (λ m. record { place = nowhere; given = false; request = request.Shut m })
            (asks_shut f.0 (drop 1 table.entries) table taken co n f.1 f.2 a),
        tells_shut nowhere f.0 (drop 1 table.entries) table new taken co r f.1 j same a,
      ))
      x.call

  pub shut_refused : {p : Piece} {old : Table} {first : W} {A : Type 0} {on : A → List Piece → List Piece} (any : Bool)
      (table : Table) (n : ℕ) (h : Halt) (w w' : W) → option_map (λ e. e.stream.number) (slice_get table.entries 0)
      ≡ Some n →
      Refused ghosts (record { place = nowhere; given = false; request = request.Shut n }) w h w' →
      Leads ghosts (beside s) IsTable (λ t. s.course.used) g p old first (closing o any) table w →
      Meets ghosts (beside s) IsTable (λ t. s.course.used) g p on old first (Err h) table w'
  shut_refused any table n h w w' e x lead =
      let f = first_of table n e in
      rw x.is (unanswered {q = λ k. Do (Closing o)} {to = left_of any} {then_ = λ k r. ends o}
      (want nowhere (Shuts (Named f.0.stream.class f.0.stream.text))) (record {
        place = nowhere;
        given = false;
        request = request.Shut n;
      }) x.by laws lead
      (λ k taken co a. (
        seen (beside s table taken) co,
        shuts (left_of any k) f.0 (drop 1 table.entries) table taken co f.1 a,
        ap (λ m. record { place = nowhere; given = false; request = request.Shut m })
            (asks_shut f.0 (drop 1 table.entries) table taken co n f.1 f.2 a),
      ))
      x.memory x.log)
