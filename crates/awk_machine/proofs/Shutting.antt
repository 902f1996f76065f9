-- Every stream is opened and shut in turn, and in the end none is open.
use Rattle.std.proofs.Common.{◌≡◌, ◌≤◌, ◌+◌, ◌==◌, ◌&&◌, nat_eq, ℕ, Bool, true, false, List, [], ◌∷◌, ◌++◌, Option}
use Rattle.std.proofs.Common.{refl, sym, ◌∙◌, ap, subst, arith, true≢false, nat_lt}
use Rattle.std.specs.Prelude.{Some, None, is_some, if◌then◌else◌, option_map}
use Rattle.std.proofs.lemmas.Slice.Eq.{bytes_eq-Decides}
use Rattle.std.specs.Str.{bytes_eq}
use Rattle.box_world.specs.declared.ask.Mode.{Mode}
use Rattle.box_world.specs.declared.ask.Reply.{Reply}
use Rattle.box_world.specs.declared.ask.Reply.TheVariants as reply
use Rattle.box_world.specs.Events.{Class, class_number, Standard, Named, Wish, Opens, Reads, Writes, Shuts, Runs, Looks}
use Rattle.box_world.specs.Events.{Assigns, Want, Event, Stream, is_named, find_stream, without_stream, streams_after}
use Rattle.box_world.specs.Events.{open_streams}
use Rattle.awk_machine.specs.Advances.{known, asked_by, asked, over_by, held}
use Rattle.awk_machine.specs.Laws.{opens_once, shuts_once, times_opened, times_shut, IsWhole, InTurn, AllShut}
use Rattle.awk_machine.specs.Moves.{move}
use Rattle.awk_machine.specs.Pieces.{nowhere, Piece, Next, Goes, Steps, Asks, Seeks, Over, Outcome, Cut, ends}
use Rattle.awk_machine.specs.Plays.{Reaches, here, goes, steps, asks, seeks, Stands, over, lacks, unlogged}
use Rattle.awk_machine.specs.State.{State, Course, Given}
use Rattle.awk_machine.specs.Streams.{is_live, want, event, seen}

-- ---- a request is asked only where its reply is not known

abbrev IsDue : Want → List Event → Type 0
IsDue w es = known w.wish es ≡ None

due_by : (o : Option Reply) (w v : Want) (then_ h : Reply → List Piece) (s t : State)
    → asked_by o w then_ s ≡ Asks v h t → (o ≡ None) × (w ≡ v)
due_by (Some r) w v then_ h s t e = absurd (cc)
due_by None w v then_ h s t e = (refl, cc)

due_of : (es : List Event) (w v : Want) (then_ h : Reply → List Piece) (s t : State) → asked es w then_ s ≡ Asks v h t
    → IsDue v es
due_of es w v then_ h s t e = let d = due_by (known w.wish es) w v then_ h s t e in subst (λ z. IsDue z es) d.1 d.0

due_over : (xs : List Stream) (o : Outcome) (v : Want) (h : Reply → List Piece) (s t : State)
    → over_by xs o s ≡ Asks v h t → IsDue v s.course.events
due_over [] o v h s t e = absurd (cc)
due_over (x ∷ xs) o v h s t e = due_of s.course.events (want nowhere (Shuts (Named x.class x.text))) v (λ r. ends o) h s
    t e

due_step : (b : Bool) (k l : List Piece) (t u : State) (v : Want) (h : Reply → List Piece)
    → (if b then Steps k t else Goes l t) ≡ Asks v h u → ⊥
due_step true k l t u v h e = cc
due_step false k l t u v h e = cc

due : (g : Given) (s : State) (x : Next) (v : Want) (h : Reply → List Piece) (t : State) → held g s x ≡ Asks v h t
    → IsDue v s.course.events
due g s (Goes k u) v h t e = absurd (cc)
due g s (Steps k u) v h t e = absurd (due_step (nat_lt s.course.used g.bound) k (ends Cut) u t v h e)
due g s (Asks w then_ u) v h t e = due_of s.course.events w v then_ h u t e
due g s (Seeks q then_ u) v h t e = absurd (cc)
due g s (Over o) v h t e = due_over (open_streams s.course.events) o v h s t e

-- ---- a run is over only where no stream is open

over_asked : (o : Option Reply) (w : Want) (then_ : Reply → List Piece) (s : State) (p : Outcome)
    → asked_by o w then_ s ≡ Over p → ⊥
over_asked (Some r) w then_ s p e = cc
over_asked None w then_ s p e = cc

none_by : (xs : List Stream) (o p : Outcome) (s : State) → over_by xs o s ≡ Over p → xs ≡ []
none_by [] o p s e = refl
none_by (x ∷ xs) o p s e =
    absurd (over_asked (known (Shuts (Named x.class x.text)) s.course.events)
    (want nowhere (Shuts (Named x.class x.text))) (λ r. ends o) s p e)

over_step : (b : Bool) (k l : List Piece) (t : State) (p : Outcome) → (if b then Steps k t else Goes l t) ≡ Over p → ⊥
over_step true k l t p e = cc
over_step false k l t p e = cc

none_open : (g : Given) (s : State) (x : Next) (p : Outcome) → held g s x ≡ Over p → open_streams s.course.events ≡ []
none_open g s (Goes k u) p e = absurd (cc)
none_open g s (Steps k u) p e = absurd (over_step (nat_lt s.course.used g.bound) k (ends Cut) u p e)
none_open g s (Asks w then_ u) p e = absurd (over_asked (known w.wish s.course.events) w then_ u p e)
none_open g s (Seeks q then_ u) p e = absurd (cc)
none_open g s (Over o) p e = none_by (open_streams s.course.events) o p s e

-- ---- the names of streams

abbrev named : Class → List ℕ → Stream
named class text = record { class = class; text = text; number = 0 }

both_true : (a b : Bool) → (a && b) ≡ true → (a ≡ true) × (b ≡ true)
both_true true b h = (refl, h)
both_true false b h = absurd (true≢false (sym h))

same_number : (m n : ℕ) → nat_eq m n ≡ true → m ≡ n
same_number m n e = grind arith

-- two streams of one class and text stand in the same way to a third one
alike : (class c : Class) (text t : List ℕ) (x : Stream) → is_named c t x ≡ true
    → is_named class text x ≡ is_named class text (named c t)
alike class c text t x h =
    let b = both_true (class_number c == class_number x.class) (bytes_eq t x.text) h in
    let e : class_number c ≡ class_number x.class = same_number (class_number c) (class_number x.class) b.0 in
    let f : t ≡ x.text = (bytes_eq-Decides t x.text).0 b.1 in
    sym (λ i. (class_number class == e i) && bytes_eq text (f i))

equal : (class c : Class) (text t : List ℕ) (x : Stream) → is_named class text (named c t) ≡ true
    → is_named class text x ≡ is_named c t x
equal class c text t x h =
    let b = both_true (class_number class == class_number c) (bytes_eq text t) h in
    let e : class_number class ≡ class_number c = same_number (class_number class) (class_number c) b.0 in
    let f : text ≡ t = (bytes_eq-Decides text t).0 b.1 in
    λ i. (e i == class_number x.class) && bytes_eq (f i) x.text

-- ---- streams of one class and text, counted

abbrev one_if : Bool → ℕ
one_if b = if b then 1 else 0

abbrev among : Class → List ℕ → List Stream → ℕ
among class text [] = 0
among class text (x ∷ xs) = one_if (is_named class text x) + among class text xs

plus_zero : (m : ℕ) → m + 0 ≡ m
plus_zero m = omega arith

swap : (m n : ℕ) → m + n ≡ n + m
swap m n = omega arith

group : (k m n : ℕ) → k + (m + n) ≡ k + m + n
group k m n = omega arith

last_one : (m : ℕ) → m + 0 ≡ 0 + m
last_one m = omega arith

zeros : (a b k : ℕ) → a ≡ b + k → 0 + a ≡ 0 + b + k
zeros a b k e = omega (arith, e)

with_opened : (b : Bool) (n m k : ℕ) → (b ≡ true → k ≡ 0) → n ≡ m + k → k ≤ 1 → (one_if b + n ≡ 0 + m + (k + one_if b))
    × (k + one_if b ≤ 1)
with_opened true n m k h e f = let z : k ≡ 0 = h refl in (omega (arith, e, z), omega (arith, z))
with_opened false n m k h e f = (omega (arith, e), omega (arith, f))

with_shut : (b d : Bool) (n m k l : ℕ) → b ≡ true → k ≡ l + (if b then one_if d else 0) → n ≡ m + k → k ≤ 1
    → (0 + n ≡ one_if d + m + l) × (l ≤ 1)
with_shut true true n m k l h i e f = (omega (arith, e, i), omega (arith, f, i))
with_shut true false n m k l h i e f = (omega (arith, e, i), omega (arith, f, i))
with_shut false d n m k l h i e f = absurd (true≢false (sym h))

no_stream : (o : Option ℕ) → option_map reply.Opened o ≡ None → o ≡ None
no_stream None h = refl
no_stream (Some n) h = absurd (cc)

live_by : (b : Bool) → (if b then None else Some reply.Failed) ≡ None → b ≡ true
live_by true h = refl
live_by false h = absurd (cc)

module _ (class : Class) (text : List ℕ) where
  among-append : (xs : List Stream) (x : Stream) → among class text (xs ++ x ∷ []) ≡ among class text xs + one_if
      (is_named class text x)
  among-append [] x = last_one (one_if (is_named class text x))
  among-append (y ∷ xs) x =
      ap (λ z. one_if (is_named class text y) + z) (among-append xs x) ∙ group (one_if (is_named class text y))
      (among class text xs) (one_if (is_named class text x))

  without_by : (c : Class) (t : List ℕ) (x : Stream) (xs : List Stream) (b : Bool) → is_named c t x ≡ b →
      among class text xs ≡ among class text (without_stream c t xs) + (if is_some (find_stream c t xs) then one_if
      (is_named class text (named c t)) else 0) →
      one_if (is_named class text x) + among class text xs
      ≡ among class text (if b then xs else x ∷ without_stream c t xs) +
      (if is_some (if b then Some x.number else find_stream c t xs) then one_if (is_named class text (named c t))
      else 0)
  without_by c t x xs true e h =
      ap (λ z. one_if z + among class text xs) (alike class c text t x e)
      ∙ swap (one_if (is_named class text (named c t))) (among class text xs)
  without_by c t x xs false e h =
      ap (λ z. one_if (is_named class text x) + z) h
      ∙ group (one_if (is_named class text x)) (among class text (without_stream c t xs))
      (if is_some (find_stream c t xs) then one_if (is_named class text (named c t)) else 0)

  among-without : (c : Class) (t : List ℕ) (xs : List Stream) →
      among class text xs ≡ among class text (without_stream c t xs) + (if is_some (find_stream c t xs) then one_if
      (is_named class text (named c t)) else 0)
  among-without c t [] = refl
  among-without c t (x ∷ xs) = without_by c t x xs (is_named c t x) refl (among-without c t xs)

  absent_by : (c : Class) (t : List ℕ) (x : Stream) (xs : List Stream) (b : Bool) → is_named class text (named c t)
      ≡ true → is_named c t x ≡ b →
      (if b then Some x.number else find_stream c t xs) ≡ None → (find_stream c t xs ≡ None → among class text xs ≡ 0) →
      one_if (is_named class text x) + among class text xs ≡ 0
  absent_by c t x xs true same e h ih = absurd (cc)
  absent_by c t x xs false same e h ih =
      let z = ih h in
      let g : one_if false + among class text xs ≡ 0 = omega (arith, z) in
      ap (λ z. one_if z + among class text xs) (equal class c text t x same ∙ e) ∙ g

  absent : (c : Class) (t : List ℕ) (xs : List Stream) → is_named class text (named c t) ≡ true
      → find_stream c t xs ≡ None → among class text xs ≡ 0
  absent c t [] same h = refl
  absent c t (x ∷ xs) same h = absent_by c t x xs (is_named c t x) same refl h (absent c t xs same)

-- ---- the invariant: shut as often as opened, but for the one that is open

abbrev AreInTurn : Class → List ℕ → List Event → Type 0
AreInTurn class text es =
    (times_opened class text es ≡ times_shut class text es + among class text (open_streams es))
    × (among class text (open_streams es) ≤ 1)

abbrev StillInTurn : Class → List ℕ → Wish → Reply → List Event → Type 0
StillInTurn class text wish r es =
    (opens_once class text wish r + times_opened class text es ≡ shuts_once class text wish + times_shut class text es +
    among class text (streams_after wish r (open_streams es)))
    × (among class text (streams_after wish r (open_streams es)) ≤ 1)

-- so it is at each time
abbrev Always : Class → List ℕ → List Event → Type 0
Always class text [] = AreInTurn class text []
Always class text (e ∷ es) = AreInTurn class text (e ∷ es) × Always class text es

module _ (class : Class) (text : List ℕ) where
  untouched : (es : List Event) → AreInTurn class text es →
      (0 + times_opened class text es ≡ 0 + times_shut class text es + among class text (open_streams es))
      × (among class text (open_streams es) ≤ 1)
  untouched es x = (
    zeros (times_opened class text es) (times_shut class text es) (among class text (open_streams es))
        x.0,
    x.1,
  )

  opening : (m : Mode) (c : Class) (t : List ℕ) (n : ℕ) (es : List Event) → find_stream c t (open_streams es) ≡ None
      → AreInTurn class text es →
      StillInTurn class text (Opens m c t) (reply.Opened n) es
  opening m c t n es h x =
      let p = with_opened (is_named class text (named c t)) (times_opened class text es) (times_shut class text es)
      (among class text (open_streams es))
      (λ same. absent class text c t (open_streams es) same h) x.0 x.1 in
      let e = among-append class text (open_streams es) (record { class = c; text = t; number = n }) in
      (p.0 ∙ ap (λ k. 0 + times_shut class text es + k) (sym e), subst (λ z. z ≤ 1) (sym e) p.1)

  shutting : (c : Class) (t : List ℕ) (r : Reply) (es : List Event) → is_live (Named c t) es ≡ true
      → AreInTurn class text es →
      StillInTurn class text (Shuts (Named c t)) r es
  shutting c t r es h x =
      with_shut (is_some (find_stream c t (open_streams es))) (is_named class text (named c t))
      (times_opened class text es) (times_shut class text es)
      (among class text (open_streams es)) (among class text (without_stream c t (open_streams es))) h
      (among-without class text c t (open_streams es)) x.0 x.1

  still : (wish : Wish) (r : Reply) (es : List Event) → known wish es ≡ None → AreInTurn class text es
      → StillInTurn class text wish r es
  still (Opens m c t) (reply.Opened n) es h x = opening m c t n es (no_stream (find_stream c t (open_streams es)) h) x
  still (Opens m c t) (reply.Bytes b) es h x = untouched es x
  still (Opens m c t) reply.End es h x = untouched es x
  still (Opens m c t) reply.Done es h x = untouched es x
  still (Opens m c t) (reply.Status z) es h x = untouched es x
  still (Opens m c t) (reply.Value b) es h x = untouched es x
  still (Opens m c t) reply.Failed es h x = untouched es x
  still (Reads key) r es h x = untouched es x
  still (Writes key bytes) r es h x = untouched es x
  still (Shuts (Standard n)) r es h x = untouched es x
  still (Shuts (Named c t)) r es h x = shutting c t r es (live_by (is_live (Named c t) es) h) x
  still (Runs command) r es h x = untouched es x
  still (Looks name) r es h x = untouched es x
  still (Assigns name value) r es h x = untouched es x

  newest : (es : List Event) → Always class text es → AreInTurn class text es
  newest [] h = h
  newest (e ∷ es) h = h.0

  one_more : (w : Want) (r : Reply) (es : List Event) → IsDue w es → Always class text es
      → Always class text (event w r ∷ es)
  one_more w r es d h = (still w.wish r es d (newest es h), h)

  always : {g : Given} {k m : List Piece} {s u : State} {c d : Course} → Reaches g k s c m u d
      → Always class text c.events → Always class text d.events
  always here h = h
  always (goes e x) h = always x h
  always (steps e x) h = always x h
  always {g = g} {k = k} {s = s} {c = c} (asks {t = t} {w = w} {then_ = then_} r e fits x) h =
      always x (one_more w r c.events (due g (seen s c) (move g k (seen s c)) w then_ t e) h)
  always (seeks a e is x) h = always x h

  at_start : AreInTurn class text []
  at_start = (refl, omega arith)

  each_time : (later earlier : List Event) → Always class text (later ++ earlier) → AreInTurn class text earlier
  each_time [] earlier h = newest earlier h
  each_time (e ∷ later) earlier h = each_time later earlier h.1

  within : (es : List Event) → AreInTurn class text es → (times_shut class text es ≤ times_opened class text es)
      × (times_opened class text es ≤ times_shut class text es + 1)
  within es x = let e = x.0 in let f = x.1 in (omega (arith, e), omega (arith, e, f))

  all_equal : (es : List Event) → open_streams es ≡ [] → AreInTurn class text es
      → times_opened class text es ≡ times_shut class text es
  all_equal es h x = x.0 ∙ ap (λ xs. times_shut class text es + among class text xs) h
      ∙ plus_zero (times_shut class text es)

-- ---- the laws

pub in_turn : InTurn
in_turn g es o n w x class text later earlier e =
    within class text earlier (each_time class text later earlier
    (subst (λ z. Always class text z) e (always class text x.chain (at_start class text))))

none_left : (g : Given) (es : List Event) (o : Outcome) (n : ℕ) (w : Option Want) (k : List Piece) (s : State)
    → Stands g k s (record { events = es; used = n }) o w → IsWhole o → open_streams es ≡ []
none_left g es o n w k s (over e) whole = none_open g (seen s (record { events = es; used = n }))
    (move g k (seen s (record { events = es; used = n }))) o e
none_left g es o n w k s lacks whole = absurd whole
none_left g es o n w k s (unlogged e) whole = absurd whole

pub all_shut : AllShut
all_shut g es o n w x whole class text =
    all_equal class text es (none_left g es o n w x.todo x.end x.stands whole)
    (newest class text es (always class text x.chain (at_start class text)))
