-- The numbers of a run's streams are opened and shut in turn: those that are open are the numbers of the open streams.
use Rattle.std.proofs.Common.{◌≡◌, ◌∙◌, ◌+◌, ◌-◌, ◌≤◌, ℕ, Bool, true, false, not, ◌||◌, List, [], ◌∷◌, ◌++◌, map}
use Rattle.std.proofs.Common.{Option, refl, sym, ap, subst, arith, true≢false, nat_eq, nat_lt, cond}
use Rattle.std.specs.Prelude.{Some, None, if◌then◌else◌, is_some, is_none, unwrap_or, IsSome}
use Rattle.std.proofs.lemmas.Bool.Decides.{nat_tests}
use Rattle.awk_machine.specs.Advances.{known, asked_by, asked, over_by, held}
use Rattle.awk_machine.specs.Laws.{IsWhole}
use Rattle.awk_machine.specs.Moves.{move}
use Rattle.awk_machine.specs.Pieces.{nowhere, Piece, Next, Goes, Steps, Asks, Seeks, Over, Outcome, Cut, ends}
use Rattle.awk_machine.specs.Plays.{Fits, Reaches, here, goes, steps, asks, seeks, Stands, over, lacks, unlogged}
use Rattle.awk_machine.specs.State.{State, Course, Given}
use Rattle.awk_machine.specs.Streams.{is_live, want, event, seen}
use Rattle.awk_streams.proofs.Numbers.{times-append, times-without, times-without_stream, found_once, among_all}
use Rattle.awk_streams.specs.Tasks.{one_if, times}
use Rattle.awk_text.specs.declared.place.Place.{Place}
use Rattle.box_world.specs.Calls.{Call, is_among, without, numbers_after, open_after, open_after-append, IsFitting}
use Rattle.box_world.specs.Events.{Class, Standard, Named, Wish, Opens, Reads, Writes, Shuts, Runs, Looks, Assigns}
use Rattle.box_world.specs.Events.{Want, Event, Stream, find_stream, without_stream, no_stream, request_of, ask_of}
use Rattle.box_world.specs.Events.{calls, open_streams, streams_after}
use Rattle.box_world.specs.declared.ask.Reply.{Reply}
use Rattle.box_world.specs.declared.ask.Reply.TheVariants as reply
use Rattle.box_world.specs.declared.ask.Request.{Request}
use Rattle.box_world.specs.declared.ask.Request.TheVariants.{Open, Next as Reading, Put, Shut, System, Env, Assign}
use Rattle.listing_laws.specs.Standards.{IsKept, AllKept}
use Rattle.listing_laws.specs.Turns.{opens, shuts, TakesTurns, AreShutOnce, NumbersShut}
use Rattle.listing_laws.proofs.Standards.{standards_kept}

-- ---- calls that open and shut numbers as they may

-- what is opened is not open, and what is shut is
abbrev Lawful : List ℕ → Request → Reply → Type 0
Lawful ns (Open mode text) (reply.Opened k) = is_among ns k ≡ false
Lawful ns (Shut k) r = is_among ns k ≡ true
Lawful ns request r = Unit {0}

abbrev AreLawful : List ℕ → List Call → Type 0
AreLawful ns [] = Unit {0}
AreLawful ns (c ∷ cs) = Lawful ns c.0.request c.1 × AreLawful (numbers_after c.0.request c.1 ns) cs

lawful_append : (xs : List Call) (y : Call) (ns : List ℕ) → AreLawful ns xs → Lawful (open_after xs ns) y.0.request y.1
    → AreLawful ns (xs ++ y ∷ [])
lawful_append [] y ns h i = (i, tt)
lawful_append (x ∷ xs) y ns h i = (h.0, lawful_append xs y (numbers_after x.0.request x.1 ns) h.1 i)

same : (m n : ℕ) → nat_eq m n ≡ true → m ≡ n
same m n e = grind arith

absent_by : (n k : ℕ) (ks : List ℕ) (b : Bool) → (is_among ks n ≡ false → times n ks ≡ 0) →
    (b || is_among ks n) ≡ false → one_if b + times n ks ≡ 0
absent_by n k ks true ih g = absurd (true≢false g)
absent_by n k ks false ih g = let i = ih g in omega arith

absent : (n : ℕ) (ks : List ℕ) → is_among ks n ≡ false → times n ks ≡ 0
absent n [] e = refl
absent n (k ∷ ks) e = absent_by n k ks (nat_eq k n) (absent n ks) e

there_by : (n k : ℕ) (ks : List ℕ) (b : Bool) → (is_among ks n ≡ true → 1 ≤ times n ks) →
    (b || is_among ks n) ≡ true → 1 ≤ one_if b + times n ks
there_by n k ks true ih g = omega arith
there_by n k ks false ih g = let i = ih g in omega arith

there : (n : ℕ) (ks : List ℕ) → is_among ks n ≡ true → 1 ≤ times n ks
there n [] e = absurd (true≢false (sym e))
there n (k ∷ ks) e = there_by n k ks (nat_eq k n) (there n ks) e

-- the number is open once, or not at all
abbrev IsOpen : ℕ → Bool → List ℕ → Type 0
IsOpen n b ns = times n ns ≡ one_if b

opened_by : (n k : ℕ) (b : Bool) (ns : List ℕ) → nat_eq k n ≡ b → IsOpen n true ns → is_among ns k ≡ false → b ≡ false
opened_by n k true ns e h i =
    let s = same k n e in let z = absent n ns (subst (λ m. is_among ns m ≡ false) s i) in absurd (omega arith)
opened_by n k false ns e h i = refl

shut_by : (n k : ℕ) (b : Bool) (ns : List ℕ) → nat_eq k n ≡ b → IsOpen n false ns → is_among ns k ≡ true → b ≡ false
shut_by n k true ns e h i =
    let s = same k n e in let z = there n ns (subst (λ m. is_among ns m ≡ true) s i) in absurd (omega arith)
shut_by n k false ns e h i = refl

less : (b : Bool) (t : ℕ) → t ≡ 1 → t - one_if b ≡ one_if (not b)
less true t e = omega arith
less false t e = omega arith

none_less : (b : Bool) (t : ℕ) → t ≡ 0 → t - one_if b ≡ 0
none_less true t e = omega arith
none_less false t e = omega arith

-- while the number is open
abbrev OpenTurn : ℕ → List ℕ → Request → Reply → Type 0
OpenTurn n ns q r = (opens n q r ≡ false) × IsOpen n (not (shuts n q)) (numbers_after q r ns)

open_turn : (n : ℕ) (ns : List ℕ) (q : Request) (r : Reply) → IsOpen n true ns → Lawful ns q r → OpenTurn n ns q r
open_turn n ns (Open mode text) (reply.Opened k) h i =
    let e = opened_by n k (nat_eq k n) ns refl h i in
    let f = times-append n ns (k ∷ []) in
    (e, rw (f, e) (omega arith))
open_turn n ns (Open mode text) (reply.Bytes x) h i = (refl, h)
open_turn n ns (Open mode text) reply.End h i = (refl, h)
open_turn n ns (Open mode text) reply.Done h i = (refl, h)
open_turn n ns (Open mode text) (reply.Status x) h i = (refl, h)
open_turn n ns (Open mode text) (reply.Value x) h i = (refl, h)
open_turn n ns (Open mode text) reply.Failed h i = (refl, h)
open_turn n ns (Reading k) r h i = (refl, h)
open_turn n ns (Put k x) r h i = (refl, h)
open_turn n ns (Shut k) r h i = (refl, times-without k n ns ∙ less (nat_eq k n) (times n ns) h)
open_turn n ns (System x) r h i = (refl, h)
open_turn n ns (Env x) r h i = (refl, h)
open_turn n ns (Assign x y) r h i = (refl, h)

-- while it is not
abbrev ShutTurn : ℕ → List ℕ → Request → Reply → Type 0
ShutTurn n ns q r = (shuts n q ≡ false) × IsOpen n (opens n q r) (numbers_after q r ns)

shut_turn : (n : ℕ) (ns : List ℕ) (q : Request) (r : Reply) → IsOpen n false ns → Lawful ns q r → ShutTurn n ns q r
shut_turn n ns (Open mode text) (reply.Opened k) h i =
    let f = times-append n ns (k ∷ []) in (refl, rw (f, h) (omega arith))
shut_turn n ns (Open mode text) (reply.Bytes x) h i = (refl, h)
shut_turn n ns (Open mode text) reply.End h i = (refl, h)
shut_turn n ns (Open mode text) reply.Done h i = (refl, h)
shut_turn n ns (Open mode text) (reply.Status x) h i = (refl, h)
shut_turn n ns (Open mode text) (reply.Value x) h i = (refl, h)
shut_turn n ns (Open mode text) reply.Failed h i = (refl, h)
shut_turn n ns (Reading k) r h i = (refl, h)
shut_turn n ns (Put k x) r h i = (refl, h)
shut_turn n ns (Shut k) r h i = (
  shut_by n k (nat_eq k n) ns refl h i,
  times-without k n ns ∙ none_less (nat_eq k n)
      (times n ns) h,
)
shut_turn n ns (System x) r h i = (refl, h)
shut_turn n ns (Env x) r h i = (refl, h)
shut_turn n ns (Assign x y) r h i = (refl, h)

not_open : (b : Bool) → 0 ≡ one_if b → b ≡ false
not_open true e = absurd (omega arith)
not_open false e = refl

turns : (n : ℕ) (b : Bool) (cs : List Call) (ns : List ℕ) → IsOpen n b ns → AreLawful ns cs → open_after cs ns ≡ [] →
    TakesTurns n b cs
turns n b [] ns h i e = not_open b (sym (ap (times n) e) ∙ h)
turns n true (c ∷ cs) ns h i e =
    let t = open_turn n ns c.0.request c.1 h i.0 in
    (t.0, turns n (not (shuts n c.0.request)) cs (numbers_after c.0.request c.1 ns) t.1 i.1 e)
turns n false (c ∷ cs) ns h i e =
    let t = shut_turn n ns c.0.request c.1 h i.0 in
    (t.0, turns n (opens n c.0.request c.1) cs (numbers_after c.0.request c.1 ns) t.1 i.1 e)

-- ---- a request is asked only where its reply is not known, and a run is over only where no stream is open

asked_due : (o : Option Reply) (w v : Want) (then_ h : Reply → List Piece) (s t : State) →
    asked_by o w then_ s ≡ Asks v h t → (o ≡ None) × (w ≡ v)
asked_due (Some r) w v then_ h s t e = absurd (cc)
asked_due None w v then_ h s t e = (refl, cc)

due_of : (es : List Event) (w v : Want) (then_ h : Reply → List Piece) (s t : State) →
    asked es w then_ s ≡ Asks v h t → known v.wish es ≡ None
due_of es w v then_ h s t e =
    let d = asked_due (known w.wish es) w v then_ h s t e in subst (λ z. known z.wish es ≡ None) d.1 d.0

due_over : (xs : List Stream) (o : Outcome) (v : Want) (h : Reply → List Piece) (s t : State) →
    over_by xs o s ≡ Asks v h t → known v.wish s.course.events ≡ None
due_over [] o v h s t e = absurd (cc)
due_over (x ∷ xs) o v h s t e = due_of s.course.events (want nowhere (Shuts (Named x.class x.text))) v (λ r. ends o) h s
    t e

due_step : (b : Bool) (k l : List Piece) (t u : State) (v : Want) (h : Reply → List Piece) →
    (if b then Steps k t else Goes l t) ≡ Asks v h u → ⊥
due_step true k l t u v h e = cc
due_step false k l t u v h e = cc

due : (g : Given) (s : State) (x : Next) (v : Want) (h : Reply → List Piece) (t : State) → held g s x ≡ Asks v h t →
    known v.wish s.course.events ≡ None
due g s (Goes k u) v h t e = absurd (cc)
due g s (Steps k u) v h t e = absurd (due_step (nat_lt s.course.used g.bound) k (ends Cut) u t v h e)
due g s (Asks w then_ u) v h t e = due_of s.course.events w v then_ h u t e
due g s (Seeks q then_ u) v h t e = absurd (cc)
due g s (Over o) v h t e = due_over (open_streams s.course.events) o v h s t e

over_asked : (o : Option Reply) (w : Want) (then_ : Reply → List Piece) (s : State) (p : Outcome)
    → asked_by o w then_ s ≡ Over p → ⊥
over_asked (Some r) w then_ s p e = cc
over_asked None w then_ s p e = cc

none_by : (xs : List Stream) (o p : Outcome) (s : State) → over_by xs o s ≡ Over p → xs ≡ []
none_by [] o p s e = refl
none_by (x ∷ xs) o p s e =
    absurd (over_asked (known (Shuts (Named x.class x.text)) s.course.events)
    (want nowhere (Shuts (Named x.class x.text))) (λ r. ends o) s p e)

over_step : (b : Bool) (k l : List Piece) (t : State) (p : Outcome) → (if b then Steps k t else Goes l t) ≡ Over p → ⊥
over_step true k l t p e = cc
over_step false k l t p e = cc

none_open : (g : Given) (s : State) (x : Next) (p : Outcome) → held g s x ≡ Over p → open_streams s.course.events ≡ []
none_open g s (Goes k u) p e = absurd (cc)
none_open g s (Steps k u) p e = absurd (over_step (nat_lt s.course.used g.bound) k (ends Cut) u p e)
none_open g s (Asks w then_ u) p e = absurd (over_asked (known w.wish s.course.events) w then_ u p e)
none_open g s (Seeks q then_ u) p e = absurd (cc)
none_open g s (Over o) p e = none_by (open_streams s.course.events) o p s e

none_left : (g : Given) (es : List Event) (o : Outcome) (n : ℕ) (w : Option Want) (k : List Piece) (s : State)
    → Stands g k s (record { events = es; used = n }) o w → IsWhole o → open_streams es ≡ []
none_left g es o n w k s (over e) whole = none_open g (seen s (record { events = es; used = n }))
    (move g k (seen s (record { events = es; used = n }))) o e
none_left g es o n w k s lacks whole = absurd whole
none_left g es o n w k s (unlogged e) whole = absurd whole

-- ---- the numbers that are open are those of the open streams

abbrev numbers_of : List Stream → List ℕ
numbers_of ss = map (λ s. s.number) ss

abbrev AreSame : List ℕ → List Stream → Type 0
AreSame ns ss = (m : ℕ) → times m ns ≡ times m (numbers_of ss)

numbers_append : (ss : List Stream) (s : Stream) → numbers_of (ss ++ s ∷ []) ≡ numbers_of ss ++ s.number ∷ []
numbers_append [] s = refl
numbers_append (t ∷ ss) s = ap (λ z. t.number ∷ z) (numbers_append ss s)

abbrev StillSame : Wish → Reply → List Stream → List ℕ → Type 0
StillSame wish r ss ns = Lawful ns (request_of wish ss) r × AreSame (numbers_after (request_of wish ss) r ns)
    (streams_after wish r ss)

shutting : (c : Class) (t : List ℕ) (ss : List Stream) (ns : List ℕ) (o : Option ℕ) → find_stream c t ss ≡ o →
    is_some o ≡ true → AreSame ns ss →
    (is_among ns (unwrap_or o no_stream) ≡ true) × AreSame (without (unwrap_or o no_stream) ns) (without_stream c t ss)
shutting c t ss ns None e h is = absurd (true≢false (sym h))
shutting c t ss ns (Some n) e h is =
    let once = found_once c t ss n e in
    let f = is n in (
      among_all n ns (omega (arith, once, f)),
      λ m. times-without n m ns ∙ ap (λ z. z - one_if (nat_eq n m)) (is m)
          ∙ sym (times-without_stream m c t ss n e),
    )

live_by : (b : Bool) → (if b then None else Some reply.Failed) ≡ None → b ≡ true
live_by true h = refl
live_by false h = absurd (cc)

-- no standard stream is shut
step : (wish : Wish) (r : Reply) (es : List Event) (ns : List ℕ) → known wish es ≡ None → IsKept wish →
    IsFitting ns (request_of wish (open_streams es)) r → AreSame ns (open_streams es) →
    StillSame wish r (open_streams es) ns
step (Opens m c t) (reply.Opened k) es ns d named fits is = (
  fits.1,
  λ j. times-append j ns (k ∷ []) ∙ ap (λ z. z + times j (k ∷ [])) (is j)
      ∙ sym (times-append j (numbers_of (open_streams es)) (k ∷ []))
      ∙ ap (times j) (sym (numbers_append (open_streams es) (record { class = c; text = t; number = k }))),
)
step (Opens m c t) (reply.Bytes b) es ns d named fits is = (tt, is)
step (Opens m c t) reply.End es ns d named fits is = (tt, is)
step (Opens m c t) reply.Done es ns d named fits is = (tt, is)
step (Opens m c t) (reply.Status z) es ns d named fits is = (tt, is)
step (Opens m c t) (reply.Value b) es ns d named fits is = (tt, is)
step (Opens m c t) reply.Failed es ns d named fits is = (tt, is)
step (Reads key) r es ns d named fits is = (tt, is)
step (Writes key bytes) r es ns d named fits is = (tt, is)
step (Shuts (Standard n)) r es ns d named fits is = absurd named
step (Shuts (Named c t)) r es ns d named fits is =
    shutting c t (open_streams es) ns (find_stream c t (open_streams es)) refl (live_by (is_live (Named c t) es) d) is
step (Runs command) r es ns d named fits is = (tt, is)
step (Looks name) r es ns d named fits is = (tt, is)
step (Assigns name value) r es ns d named fits is = (tt, is)

-- ---- through a chain

abbrev open_now : List Event → List ℕ
open_now es = open_after (calls es) []

abbrev InTurn : List Event → Type 0
InTurn es = AreLawful [] (calls es) × AreSame (open_now es) (open_streams es)

one_more : (w : Want) (r : Reply) (es : List Event) → known w.wish es ≡ None → IsKept w.wish → Fits es w r →
    InTurn es → InTurn (event w r ∷ es)
one_more w r es d named fits x =
    let call : Call = (ask_of w (open_streams es), r) in
    let z = step w.wish r es (open_now es) d named fits x.1 in
    (lawful_append (calls es) call [] x.0 z.0, λ m. ap (times m) (open_after-append (calls es) (call ∷ []) []) ∙ z.1 m)

earlier : {g : Given} {k m : List Piece} {s u : State} {c d : Course} → Reaches g k s c m u d → AllKept d.events →
    AllKept c.events
earlier here h = h
earlier (goes e x) h = earlier x h
earlier (steps e x) h = earlier x h
earlier (asks r e fits x) h = (earlier x h).1
earlier (seeks a e is x) h = earlier x h

in_turn : {g : Given} {k m : List Piece} {s u : State} {c d : Course} → Reaches g k s c m u d → AllKept d.events →
    InTurn c.events → InTurn d.events
in_turn here named h = h
in_turn (goes e x) named h = in_turn x named h
in_turn (steps e x) named h = in_turn x named h
in_turn {g = g} {k = k} {s = s} {c = c} (asks {t = t} {w = w} {then_ = then_} r e fits x) named h =
    in_turn x named (one_more w r c.events (due g (seen s c) (move g k (seen s c)) w then_ t e) (earlier x named).0 fits
    h)
in_turn (seeks a e is x) named h = in_turn x named h

no_more : (ns : List ℕ) → ((m : ℕ) → times m ns ≡ 0) → ns ≡ []
no_more [] h = refl
no_more (n ∷ ns) h =
    let e : nat_eq n n ≡ true = grind (arith, nat_tests) in
    let f : one_if true + times n ns ≡ 0 = rw e at (h n) in
    absurd (omega (arith, f))

-- ---- the laws

all_turns : (es : List Event) → InTurn es → open_streams es ≡ [] → AreShutOnce (calls es)
all_turns es x e =
    λ n. turns n false (calls es) [] refl x.0
    (no_more (open_now es) (λ m. x.1 m ∙ ap (λ ss. times m (numbers_of ss)) e))

pub numbers_shut : NumbersShut
numbers_shut g es o n w x whole =
    all_turns es (in_turn x.chain (standards_kept g es o n w x) (tt, λ m. refl))
    (none_left g es o n w x.todo x.end x.stands whole)
