-- Every stream of a text is shut.
use Rattle.std.proofs.Common.{◌≡◌, inr, refl, sym, ◌∙◌, ap, subst, arith, nat_eq, ℕ, suc, ◌<◌, Bool, true, false}
use Rattle.std.proofs.Common.{true≢false, ◌&&◌, List, [], ◌∷◌, length, map}
use Rattle.std.specs.Prelude.{ℤ, Option, Some, None, Ok, Err, if◌then◌else◌, is_some, option_map}
use Rattle.std.specs.Str.{bytes_eq}
use Rattle.std.proofs.lemmas.Slice.Eq.{bytes_eq-Decides}
use Rattle.awk_text.specs.declared.place.Place.{Place}
use Rattle.awk_text.specs.declared.value.Value.{Value}
use Rattle.awk_text.specs.declared.value.Value.TheVariants.{Num}
use Rattle.awk_fields.specs.Takes.{Input}
use Rattle.awk_numbers.specs.declared.number.Number.TheVariants.{Whole}
use Rattle.awk_numbers.specs.declared.number.Numbers.{Numbers}
use Rattle.awk_numbers.specs.Operators.{truth}
use Rattle.box_world.specs.Calls.{IsStream, numbers_after}
use Rattle.box_world.specs.declared.ask.Reply.{Reply}
use Rattle.box_world.specs.declared.ask.Reply.TheVariants as reply
use Rattle.box_world.specs.declared.ask.Request.TheVariants as request
use Rattle.box_world.specs.Events.{Class, Key, Standard, Named, Shuts, Stream, calls, class_number, find_stream}
use Rattle.box_world.specs.Events.{is_named, open_streams, without_stream}
use Rattle.box_world.specs.declared.world.World.{Ghosts}
use Rattle.awk_program.specs.Slots.{Text}
use Rattle.awk_machine.specs.Advances.{advance, asked_by, held}
use Rattle.awk_machine.specs.Closing.{is_closed, first_stream, shut_answer, first_answer, answer_or, close_by}
use Rattle.awk_machine.specs.Pieces.{Piece, Do, Close, Asks, give}
use Rattle.awk_machine.specs.State.{Course, Given, State}
use Rattle.awk_machine.specs.Streams.{seen, want, with_event}
use Rattle.awk_streams.specs.declared.halt.Halt.{Halt}
use Rattle.awk_streams.specs.Chains.{Leads, Meets}
use Rattle.awk_streams.specs.Closings.{first_of, first_status, shut_status}
use Rattle.awk_streams.specs.Tables.{Table, Entry, open_of, find_input, entries_without}
use Rattle.awk_streams.specs.Tasks.{Answered, Refused, Distinct, IsTable, IsRead, Owns, beside, input_at}
use Rattle.awk_streams.proofs.Asking.{fits_here, number_at}
use Rattle.awk_streams.proofs.Chain.{Laws, asked, changes, done, unanswered}
use Rattle.awk_streams.proofs.Numbers.{among_all, found_once, times-without, times-without_stream}
use Rattle.awk_streams.proofs.Opened.{both, none_named, number_eq, number_is, some_is}
use Rattle.awk_streams.proofs.Reading.{class_is}

-- ---- the first of a text

same_pair : {A B : Type 0} (p q : A × B) → Some p ≡ Some q → (p.0 ≡ q.0) × (p.1 ≡ q.1)
same_pair p q e = let f = some_is p q e in (ap (λ z. z.0) f, ap (λ z. z.1) f)

first_closed : (text : Text) (c : Class) (n : ℕ) (es : List Entry) → first_of text es ≡ Some (c, n) → is_closed c ≡ true
first_closed text c n [] h = absurd (cc)
first_closed text c n (e ∷ es) h = by (is_closed e.stream.class && bytes_eq text e.stream.text) refl h
    (first_closed text c n es)
  where
    by : (b : Bool) → (is_closed e.stream.class && bytes_eq text e.stream.text) ≡ b
        → (if b then Some (e.stream.class, e.stream.number) else first_of text es) ≡ Some (c, n)
        → (first_of text es ≡ Some (c, n) → is_closed c ≡ true) → is_closed c ≡ true
    by true f x rest =
        let p = same_pair {A = Class} {B = ℕ} (e.stream.class, e.stream.number) (c, n) x in
        subst (λ z. is_closed z ≡ true) p.0 (both (is_closed e.stream.class) (bytes_eq text e.stream.text) f).0
    by false f x rest = rest x

abbrev stream : Class → Text → ℕ → Stream
stream d t m = record { class = d; text = t; number = m }

pub first_is : (text : Text) (c : Class) (n : ℕ) (es : List Entry) → first_of text es ≡ Some (c, n)
    → first_stream text (map (λ e. e.stream) es) ≡ Some (record { class = c; text = text; number = n })
first_is text c n [] h = absurd (cc)
first_is text c n (e ∷ es) h = by (is_closed e.stream.class && bytes_eq text e.stream.text) refl h
    (first_is text c n es)
  where
    by : (b : Bool) → (is_closed e.stream.class && bytes_eq text e.stream.text) ≡ b
        → (if b then Some (e.stream.class, e.stream.number) else first_of text es) ≡ Some (c, n) →
        (first_of text es ≡ Some (c, n) → first_stream text (map (λ x. x.stream) es)
        ≡ Some (record { class = c; text = text; number = n })) →
        (if b then Some e.stream else first_stream text (map (λ x. x.stream) es))
        ≡ Some (record { class = c; text = text; number = n })
    by true f x rest =
        let p = same_pair {A = Class} {B = ℕ} (e.stream.class, e.stream.number) (c, n) x in
        let t = (bytes_eq-Decides text e.stream.text).0 (both (is_closed e.stream.class) (bytes_eq text e.stream.text)
        f).1 in
        ap Some (ap (λ d. stream d e.stream.text e.stream.number) p.0 ∙ ap (λ u. stream c u e.stream.number) (sym t)
        ∙ ap (stream c text) p.1)
    by false f x rest = rest x

pub first_none : (text : Text) (es : List Entry) → first_of text es ≡ None → first_stream text (map (λ e. e.stream) es)
    ≡ None
first_none text [] h = refl
first_none text (e ∷ es) h = by (is_closed e.stream.class && bytes_eq text e.stream.text) h (first_none text es)
  where
    by : (b : Bool) → (if b then Some (e.stream.class, e.stream.number) else first_of text es) ≡ None
        → (first_of text es ≡ None → first_stream text (map (λ x. x.stream) es) ≡ None) →
        (if b then Some e.stream else first_stream text (map (λ x. x.stream) es)) ≡ None
    by true x rest = absurd (cc)
    by false x rest = rest x

-- it is the first of its name
pub first_found : (text : Text) (c : Class) (n : ℕ) (es : List Entry) → first_of text es ≡ Some (c, n)
    → find_stream c text (map (λ e. e.stream) es) ≡ Some n
first_found text c n [] h = absurd (cc)
first_found text c n (e ∷ es) h = by (is_closed e.stream.class && bytes_eq text e.stream.text) refl h
    (λ x. first_closed text c n es x) (first_found text c n es)
  where
    named : is_closed e.stream.class ≡ true → bytes_eq text e.stream.text ≡ true → e.stream.class ≡ c
        → is_named c text e.stream ≡ true
    named f t s = ap (λ d. nat_eq (class_number d) (class_number e.stream.class) && bytes_eq text e.stream.text) (sym s)
        ∙ ap (λ b. b && bytes_eq text e.stream.text) (number_eq (class_number e.stream.class)
        (class_number e.stream.class) refl) ∙ t

    other : (b : Bool) → is_named c text e.stream ≡ b → is_closed c ≡ true
        → (is_closed e.stream.class && bytes_eq text e.stream.text) ≡ false → b ≡ false
    other false f l x = refl
    other true f l x =
        let p = both (nat_eq (class_number c) (class_number e.stream.class)) (bytes_eq text e.stream.text) f in
        let s = class_is c e.stream.class (number_is (class_number c) (class_number e.stream.class) p.0) in
        let y : (is_closed e.stream.class && bytes_eq text e.stream.text) ≡ true =
        ap (λ d. is_closed d && bytes_eq text e.stream.text) (sym s) ∙ ap (λ b. b && bytes_eq text e.stream.text) l
        ∙ p.1 in
        absurd (true≢false (sym y ∙ x))

    by : (b : Bool) → (is_closed e.stream.class && bytes_eq text e.stream.text) ≡ b
        → (if b then Some (e.stream.class, e.stream.number) else first_of text es) ≡ Some (c, n)
        → (first_of text es ≡ Some (c, n) → is_closed c ≡ true) →
        (first_of text es ≡ Some (c, n) → find_stream c text (map (λ x. x.stream) es) ≡ Some n) →
        (if is_named c text e.stream then Some e.stream.number else find_stream c text (map (λ x. x.stream) es))
        ≡ Some n
    by true f x l rest =
        let p = same_pair {A = Class} {B = ℕ} (e.stream.class, e.stream.number) (c, n) x in
        let t = both (is_closed e.stream.class) (bytes_eq text e.stream.text) f in
        ap (λ b. if b then Some e.stream.number else find_stream c text (map (λ x. x.stream) es)) (named t.0 t.1 p.0)
        ∙ ap Some p.1
    by false f x l rest = ap (λ b. if b then Some e.stream.number else find_stream c text (map (λ x. x.stream) es))
        (other (is_named c text e.stream) refl (l x) f) ∙ rest x

-- ---- a stream that is gone

without_streams : (c : Class) (text : Text) (es : List Entry) → without_stream c text (map (λ e. e.stream) es)
    ≡ map (λ e. e.stream) (entries_without c text es)
without_streams c text [] = refl
without_streams c text (e ∷ es) = by (is_named c text e.stream) (without_streams c text es)
  where
    by : (b : Bool) → without_stream c text (map (λ x. x.stream) es) ≡ map (λ x. x.stream) (entries_without c text es) →
        (if b then map (λ x. x.stream) es else e.stream ∷ without_stream c text (map (λ x. x.stream) es))
        ≡ map (λ x. x.stream) (if b then es else e ∷ entries_without c text es)
    by true rest = refl
    by false rest = ap (λ ss. e.stream ∷ ss) rest

none_without : (d : Class) (t : Text) (c : Class) (text : Text) (ss : List Stream) → find_stream d t ss ≡ None
    → find_stream d t (without_stream c text ss) ≡ None
none_without d t c text [] h = refl
none_without d t c text (s ∷ ss) h = by (is_named d t s) (is_named c text s) refl h (none_without d t c text ss)
  where
    by : (a b : Bool) → is_named d t s ≡ a → (if a then Some s.number else find_stream d t ss) ≡ None
        → (find_stream d t ss ≡ None → find_stream d t (without_stream c text ss) ≡ None) →
        find_stream d t (if b then ss else s ∷ without_stream c text ss) ≡ None
    by true b f x rest = absurd (cc)
    by false true f x rest = x
    by false false f x rest = ap (λ z. if z then Some s.number else find_stream d t (without_stream c text ss)) f
        ∙ rest x

distinct_without : (c : Class) (text : Text) (ss : List Stream) → Distinct ss → Distinct (without_stream c text ss)
distinct_without c text [] h = tt
distinct_without c text (s ∷ ss) h = by (is_named c text s) (distinct_without c text ss h.1)
  where
    by : (b : Bool) → Distinct (without_stream c text ss) → Distinct (if b then ss else s ∷ without_stream c text ss)
    by true rest = h.1
    by false rest = (none_without s.class s.text c text ss h.0, rest)

-- what another holds was held before
input_without : (c : Class) (text : Text) (d : Class) (t : Text) (input : Input) (es : List Entry)
    → Distinct (map (λ e. e.stream) es) → find_input d t (entries_without c text es) ≡ Some input
    → find_input d t es ≡ Some input
input_without c text d t input [] u h = h
input_without c text d t input (e ∷ es) u h = by (is_named d t e.stream) (is_named c text e.stream) refl h
    (input_without c text d t input es u.1)
  where
    by : (a b : Bool) → is_named d t e.stream ≡ a → find_input d t (if b then es else e ∷ entries_without c text es)
        ≡ Some input → (find_input d t (entries_without c text es) ≡ Some input → find_input d t es ≡ Some input) →
        (if a then Some e.input else find_input d t es) ≡ Some input
    by true true f x rest = let n = none_named d t e.stream es f u.0 in absurd (cc)
    by false true f x rest = x
    by true false f x rest = sym (ap (λ z. if z then Some e.input else find_input d t (entries_without c text es)) f)
        ∙ x
    by false false f x rest =
        rest (sym (ap (λ z. if z then Some e.input else find_input d t (entries_without c text es)) f) ∙ x)

pub tells_closed : (place : Place) (c : Class) (text : Text) (old new : Table) (taken : Key → ℕ) (co : Course)
    (r : Reply) → new.entries ≡ entries_without c text old.entries → new.input ≡ old.input → IsTable old taken co →
    IsTable new taken (with_event (want place (Shuts (Named c text))) r co)
tells_closed place c text old new taken co r es same a = record {
  streams = streams;
  distinct = distinct;
  inputs =
      inputs;
}
  where
    gone : without_stream c text (open_of old) ≡ open_of new
    gone = without_streams c text old.entries ∙ ap (map (λ e. e.stream)) (sym es)

    streams : without_stream c text (open_streams co.events) ≡ open_of new
    streams = ap (without_stream c text) a.streams ∙ gone

    distinct : Distinct (open_of new)
    distinct = subst Distinct gone (distinct_without c text (open_of old) a.distinct)

    inputs : (key : Key) (input : Input) → input_at key new ≡ Some input
        → IsRead key input (taken key) (with_event (want place (Shuts (Named c text))) r co)
    inputs (Standard m) input h =
        let x = a.inputs (Standard m) input (sym (ap (λ y. if nat_eq m 0 then Some y else None) same) ∙ h) in
        record { unread = x.unread; ended = x.ended; within = x.within }
    inputs (Named d t) input h =
        let x = a.inputs (Named d t) input (input_without c text d t input old.entries a.distinct
        (sym (ap (find_input d t) es) ∙ h)) in
        record { unread = x.unread; ended = x.ended; within = x.within }

-- ---- numbers

pub close_duty : (numbers : List ℕ) (text : Text) (c : Class) (n : ℕ) (table : Table)
    → first_of text table.entries ≡ Some (c, n) → Owns numbers table → IsStream numbers n
close_duty numbers text c n table h owns =
    let one = found_once c text (open_of table) n (first_found text c n table.entries h) in
    let all = owns n in
    inr (among_all n numbers (omega (arith, one, all)))

pub owns_closed : (numbers after : List ℕ) (text : Text) (c : Class) (n : ℕ) (r : Reply) (table new : Table)
    → first_of text table.entries ≡ Some (c, n) → new.entries ≡ entries_without c text table.entries →
    after ≡ numbers_after (request.Shut n) r numbers → Owns numbers table → Owns after new
owns_closed numbers after text c n r table new h es is owns = λ m.
    let o = owns m in
    let gone : open_of new ≡ without_stream c text (open_of table) = ap (map (λ e. e.stream)) es
    ∙ sym (without_streams c text table.entries) in
    let less = times-without_stream m c text (open_of table) n (first_found text c n table.entries h) in
    rw (is, gone, times-without n m numbers, less) (omega (arith, o))

-- the table is shorter
pub shorter : (text : Text) (c : Class) (n : ℕ) (es : List Entry) → find_stream c text (map (λ e. e.stream) es) ≡ Some n
    → length (entries_without c text es) < length es
shorter text c n [] h = absurd (cc)
shorter text c n (e ∷ es) h = by (is_named c text e.stream) h (shorter text c n es)
  where
    by : (b : Bool) → (if b then Some e.stream.number else find_stream c text (map (λ x. x.stream) es)) ≡ Some n
        → (find_stream c text (map (λ x. x.stream) es) ≡ Some n → length (entries_without c text es) < length es) →
        length (if b then es else e ∷ entries_without c text es) < suc (length es)
    by true x rest = omega arith
    by false x rest = let l = rest x in omega (arith, l)

-- ---- the machine

module _ {W : Type 0} {ghosts : Ghosts W} (laws : Laws ghosts) (g : Given) (s : State) (place : Place)
    (text : Text) where
  at_first : (c : Class) (n : ℕ) (table : Table) (taken : Key → ℕ) (co : Course) → first_of text table.entries
      ≡ Some (c, n) → IsTable table taken co →
      first_stream text (open_streams co.events) ≡ Some (record { class = c; text = text; number = n })
  at_first c n table taken co h a = ap (first_stream text) a.streams ∙ first_is text c n table.entries h

  found_at : (c : Class) (n : ℕ) (table : Table) (taken : Key → ℕ) (co : Course) → first_of text table.entries
      ≡ Some (c, n) → IsTable table taken co → find_stream c text (open_streams co.events) ≡ Some n
  found_at c n table taken co h a = ap (find_stream c text) a.streams ∙ first_found text c n table.entries h

  close_asks : (so_far : Option Value) (k : List Piece) (c : Class) (n : ℕ) (table : Table) (taken : Key
      → ℕ) (co : Course) → first_of text table.entries ≡ Some (c, n) → IsTable table taken co →
      advance g (Do (Close place text so_far) ∷ k) (seen (beside s table taken) co)
      ≡ Asks (want place (Shuts (Named c text)))
      (λ r. Do (Close place text (Some (first_answer s.numbers so_far (shut_answer r)))) ∷ k)
      (seen (beside s table taken) co)
  close_asks so_far k c n table taken co h a =
      ap (λ o. held g (seen (beside s table taken) co)
      (close_by place text so_far o k (seen (beside s table taken) co))) (at_first c n table taken co h a)
      ∙ ap (λ o. asked_by (if is_some o then None else Some reply.Failed) (want place (Shuts (Named c text)))
      (λ r. Do (Close place text (Some (first_answer s.numbers so_far (shut_answer r)))) ∷ k)
      (seen (beside s table taken) co)) (found_at c n table taken co h a)

  pub close_one : {p : Piece} {old : Table} {first : W} (so_far : Option Value) (table new : Table) (c : Class) (n : ℕ)
      (r : Reply) (w w' : W) → first_of text table.entries ≡ Some (c, n) →
      new.entries ≡ entries_without c text table.entries → new.input ≡ table.input
      → Answered ghosts (record { place = place; given = false; request = request.Shut n }) w r w' →
      Leads ghosts (beside s) IsTable (λ t. s.course.used) g p old first (λ k. Do (Close place text so_far) ∷ k)
      table w →
      Leads ghosts (beside s) IsTable (λ t. s.course.used) g p old first
      (λ k. Do (Close place text (Some (first_answer s.numbers so_far (shut_answer r)))) ∷ k) new w'
  close_one so_far table new c n r w w' h es same x lead =
      asked {then_ = λ k r. Do (Close place text (Some (first_answer s.numbers so_far (shut_answer r)))) ∷ k}
      (want place (Shuts (Named c text))) (record { place = place; given = false; request = request.Shut n }) r laws
      refl lead
      (λ begin k taken co led a. (
        taken,
        close_asks so_far k c n table taken co h a,
        fits_here laws begin w (calls co.events) (request.Shut n) r led x.fits,
        ap (λ m. record { place = place; given = false; request = request.Shut m })
            (number_at (Named c text) n table taken co (first_found text c n table.entries h) a),
        tells_closed place c text table new taken co r es same a,
      ))
      x.call

  pub close_refused : {p : Piece} {old : Table} {first : W} {A : Type 0} {on : A → List Piece → List Piece}
      (so_far : Option Value) (table : Table) (c : Class) (n : ℕ) (h : Halt) (w w' : W) → first_of text table.entries
      ≡ Some (c, n) →
      Refused ghosts (record { place = place; given = false; request = request.Shut n }) w h w' →
      Leads ghosts (beside s) IsTable (λ t. s.course.used) g p old first (λ k. Do (Close place text so_far) ∷ k)
      table w →
      Meets ghosts (beside s) IsTable (λ t. s.course.used) g p on old first (Err h) table w'
  close_refused so_far table c n h w w' e x lead =
      rw x.is (unanswered {q = λ k. Do (Close place text so_far)} {to = λ k. k} {then_ =
      λ k r. Do (Close place text (Some (first_answer s.numbers so_far (shut_answer r)))) ∷ k}
      (want place (Shuts (Named c text))) (record { place = place; given = false; request = request.Shut n }) x.by
      laws lead
      (λ k taken co a. (
        seen (beside s table taken) co,
        close_asks so_far k c n table taken co e a,
        ap (λ m. record { place = place; given = false; request = request.Shut m })
            (number_at (Named c text) n table taken co (first_found text c n table.entries e) a),
      ))
      x.memory x.log)

  -- none is left
  pub close_done : {p : Piece} {old : Table} {first : W} (so_far : Option Value) (answer : Value) (table : Table)
      (w : W) → answer ≡ answer_or so_far → first_of text table.entries ≡ None →
      Leads ghosts (beside s) IsTable (λ t. s.course.used) g p old first (λ k. Do (Close place text so_far) ∷ k)
      table w →
      Meets ghosts (beside s) IsTable (λ t. s.course.used) g p give old first (Ok answer) table w
  close_done so_far answer table w is none lead =
      rw is (done (changes {then_ = λ k. give (answer_or so_far) k} refl lead (λ k taken co a. (
        taken,
        a,
        ap (λ o. held g (seen (beside s table taken) co)
            (close_by place text so_far o k (seen (beside s table taken) co))) (ap (first_stream text) a.streams
            ∙ first_none text table.entries none),
      ))))

-- statuses are what the machine makes of replies
shut_so : (r : Reply) → shut_answer r ≡ Num (shut_status r)
shut_so reply.Done = refl
shut_so (reply.Status z) = refl
shut_so (reply.Opened n) = refl
shut_so (reply.Bytes b) = refl
shut_so reply.End = refl
shut_so (reply.Value b) = refl
shut_so reply.Failed = refl

first_so : (numbers : Numbers) (so_far : Option ℤ) (n : ℤ)
    → first_answer numbers (option_map (λ k. Num k) so_far) (Num n) ≡ Num (first_status so_far n)
first_so numbers None n = refl
first_so numbers (Some m) n = by (truth (Whole m))
  where
    by : (b : Bool) → (if b then Num m else Num n) ≡ Num (if b then m else n)
    by true = refl
    by false = refl

pub next_so : (numbers : Numbers) (so_far : Option ℤ) (n m : ℤ) (r : Reply) → n ≡ shut_status r → m
    ≡ first_status so_far n → first_answer numbers (option_map (λ k. Num k) so_far) (shut_answer r) ≡ Num m
next_so numbers so_far n m r e f = ap (first_answer numbers (option_map (λ k. Num k) so_far))
    (shut_so r ∙ ap Num (sym e)) ∙ first_so numbers so_far n ∙ ap Num (sym f)
