-- Only one run fits the replies.
use Rattle.std.proofs.Common.{◌≡◌, ℕ, ◌⊎◌, inl, inr, List, [], ◌∷◌, ◌++◌, Option, refl, sym, ◌∙◌, ap, append_assoc}
use Rattle.std.proofs.Common.{append-nil}
use Rattle.box_world.specs.declared.ask.Reply.{Reply}
use Rattle.box_world.specs.Events.{Want, Event}
use Rattle.awk_machine.specs.Advances.{advance}
use Rattle.awk_machine.specs.Begins.{nothing, first_pieces, first_state}
use Rattle.awk_machine.specs.Laws.{replies, Alike, IsWhole, IsLater, OneRun, FirstPart}
use Rattle.awk_machine.specs.Pieces.{Piece, Next, Goes, Steps, Asks, Seeks, Over, Outcome}
use Rattle.awk_machine.specs.Plays.{Plays, Reaches, here, goes, steps, asks, seeks, Stands, over, lacks, unlogged}
use Rattle.awk_machine.specs.Questions.{Question, Answer, Right}
use Rattle.awk_machine.specs.State.{State, Course, Given}
use Rattle.awk_machine.specs.Streams.{event, seen, with_step, with_event}
use Rattle.awk_machine.proofs.OneAnswer.{one_answer}

-- ---- a move is of one kind

goes-over : {x : Next} {k : List Piece} {s : State} {o : Outcome} → x ≡ Goes k s → x ≡ Over o → ⊥
goes-over e f = cc

steps-over : {x : Next} {k : List Piece} {s : State} {o : Outcome} → x ≡ Steps k s → x ≡ Over o → ⊥
steps-over e f = cc

asks-over : {x : Next} {w : Want} {then_ : Reply → List Piece} {s : State} {o : Outcome} → x ≡ Asks w then_ s
    → x ≡ Over o → ⊥
asks-over e f = cc

seeks-over : {x : Next} {q : Question} {then_ : Answer → List Piece} {s : State} {o : Outcome} → x ≡ Seeks q then_ s
    → x ≡ Over o → ⊥
seeks-over e f = cc

goes-steps : {x : Next} {k l : List Piece} {s t : State} → x ≡ Goes k t → x ≡ Steps l s → ⊥
goes-steps e f = cc

goes-asks : {x : Next} {k : List Piece} {w : Want} {then_ : Reply → List Piece} {s t : State} → x ≡ Goes k t
    → x ≡ Asks w then_ s → ⊥
goes-asks e f = cc

goes-seeks : {x : Next} {k : List Piece} {q : Question} {then_ : Answer → List Piece} {s t : State} → x ≡ Goes k t
    → x ≡ Seeks q then_ s → ⊥
goes-seeks e f = cc

steps-asks : {x : Next} {k : List Piece} {w : Want} {then_ : Reply → List Piece} {s t : State} → x ≡ Steps k t
    → x ≡ Asks w then_ s → ⊥
steps-asks e f = cc

steps-seeks : {x : Next} {k : List Piece} {q : Question} {then_ : Answer → List Piece} {s t : State} → x ≡ Steps k t
    → x ≡ Seeks q then_ s → ⊥
steps-seeks e f = cc

asks-seeks : {x : Next} {w : Want} {h : Reply → List Piece} {q : Question} {then_ : Answer → List Piece} {s t : State}
    → x ≡ Asks w h t → x ≡ Seeks q then_ s → ⊥
asks-seeks e f = cc

same-end : {x : Next} {o p : Outcome} → x ≡ Over o → x ≡ Over p → o ≡ p
same-end e f = cc

-- ---- a chain of moves with these replies, the oldest first

data By (g : Given) : List Piece → State → Course → List Reply → List Piece → State → Course → Type 0 where
  none : {k : List Piece} {s : State} {c : Course} → By g k s c [] k s c
  quiet : {k l m : List Piece} {s t u : State} {c d : Course} {rs : List Reply} → advance g k (seen s c) ≡ Goes l t
      → By g l (seen t c) c rs m u d → By g k s c rs m u d
  step : {k l m : List Piece} {s t u : State} {c d : Course} {rs : List Reply} → advance g k (seen s c) ≡ Steps l t →
      By g l (seen t (with_step c)) (with_step c) rs m u d → By g k s c rs m u d
  ask : {k m : List Piece} {s t u : State} {c d : Course} {w : Want} {then_ : Reply → List Piece} {rs : List Reply}
      (r : Reply) →
      advance g k (seen s c) ≡ Asks w then_ t → By g (then_ r) (seen t (with_event w r c)) (with_event w r c) rs m u d
      → By g k s c (r ∷ rs) m u d
  seek : {k m : List Piece} {s t u : State} {c d : Course} {q : Question} {then_ : Answer
      → List Piece} {rs : List Reply} (a : Answer) →
      advance g k (seen s c) ≡ Seeks q then_ t → Right q a → By g (then_ a) (seen t c) c rs m u d → By g k s c rs m u d

record Replied (g : Given) (k : List Piece) (s : State) (c : Course) (m : List Piece) (u : State) (d : Course) : Type 0
  where
    given : List Reply
    chain : By g k s c given m u d
    grown : replies d.events ≡ replies c.events ++ given

replied : {g : Given} {k m : List Piece} {s u : State} {c d : Course} → Reaches g k s c m u d → Replied g k s c m u d
replied {c = c} here = record { given = []; chain = none; grown = sym (append-nil (replies c.events)) }
replied (goes h x) = let r = replied x in record { given = r.given; chain = quiet h r.chain; grown = r.grown }
replied (steps h x) = let r = replied x in record { given = r.given; chain = step h r.chain; grown = r.grown }
replied {c = c} (asks reply h fits x) =
    let r = replied x in
    record {
      given = reply ∷ r.given;
      chain = ask reply h r.chain;
      grown = r.grown ∙ append_assoc (replies c.events)
          (reply ∷ []) r.given;
    }
replied (seeks a h is x) = let r = replied x in record { given = r.given; chain = seek a h is r.chain; grown = r.grown }

same-goes : {g : Given} {x : Next} {k l m : List Piece} {s t u : State} {c d : Course} {rs : List Reply} → x ≡ Goes k s
    → x ≡ Goes l t → By g l (seen t c) c rs m u d → By g k (seen s c) c rs m u d
same-goes {k = k} {l = l} {s = s} {t = t} e f y = let a : l ≡ k = cc in let b : t ≡ s = cc in rw (a, b) at y

same-steps : {g : Given} {x : Next} {k l m : List Piece} {s t u : State} {c d : Course} {rs : List Reply}
    → x ≡ Steps k s → x ≡ Steps l t → By g l (seen t c) c rs m u d → By g k (seen s c) c rs m u d
same-steps {k = k} {l = l} {s = s} {t = t} e f y = let a : l ≡ k = cc in let b : t ≡ s = cc in rw (a, b) at y

same-asks : {g : Given} {x : Next} {v w : Want} {f h : Reply → List Piece} {s t u : State} {m : List Piece}
    {c d : Course} {rs us : List Reply} {r r' : Reply} →
    x ≡ Asks v f s → x ≡ Asks w h t → r' ∷ us ≡ r ∷ rs → By g (h r') (seen t (with_event w r' c)) (with_event w r' c) us
    m u d →
    By g (f r) (seen s (with_event v r c)) (with_event v r c) rs m u d
same-asks {v = v} {w = w} {f = f} {h = h} {s = s} {t = t} {rs = rs} {us = us} {r = r} {r' = r'} e e' i x =
    let b : w ≡ v = cc in let d : h ≡ f = cc in let j : t ≡ s = cc in let y : r' ≡ r = cc in let z : us ≡ rs = cc in
    rw (b, d, j, y, z) at x

same-seeks : {g : Given} {x : Next} {q q' : Question} {f h : Answer → List Piece} {s t u : State} {m : List Piece}
    {c d : Course} {rs : List Reply} {a a' : Answer} →
    x ≡ Seeks q f s → x ≡ Seeks q' h t → Right q a → Right q' a' → By g (h a') (seen t c) c rs m u d
    → By g (f a) (seen s c) c rs m u d
same-seeks {q = q} {q' = q'} {f = f} {h = h} {s = s} {t = t} {a = a} {a' = a'} e e' i i' x =
    let b : q' ≡ q = cc in let d : h ≡ f = cc in let j : t ≡ s = cc in
    let y : a' ≡ a = one_answer q a' a (rw b at i') i in
    rw (d, j, y) at x

both-empty : (rs us : List Reply) → [] ≡ rs ++ us → (rs ≡ []) × (us ≡ [])
both-empty [] us e = (refl, sym e)
both-empty (r ∷ rs) us e = absurd (cc)

abbrev Rest : Given → List Piece → State → Course → List Reply → List Piece → State → Course → Type 0
Rest g l t c us m u d = By g l t c us m u d ⊎ ((us ≡ []) × By g m u d [] l t c)

-- the chain with more replies goes on where the other ends, or one of them stops some quiet moves before
on : {g : Given} {k l m : List Piece} {s t u : State} {b c d : Course} {rs us vs : List Reply} →
    By g k s b rs l t c → By g k s b vs m u d → vs ≡ rs ++ us → Rest g l t c us m u d
on none x i = inl (rw i at x)
on {rs = rs} {us = us} (quiet h x) none i = let b = both-empty rs us i in inr (b.1, quiet h (rw b.0 at x))
on (quiet h x) (quiet h' x') i = on x (same-goes h h' x') i
on (quiet h x) (step h' x') i = absurd (goes-steps h h')
on (quiet h x) (ask r h' x') i = absurd (goes-asks h h')
on (quiet h x) (seek a h' y x') i = absurd (goes-seeks h h')
on {rs = rs} {us = us} (step h x) none i = let b = both-empty rs us i in inr (b.1, step h (rw b.0 at x))
on (step h x) (quiet h' x') i = absurd (goes-steps h' h)
on (step h x) (step h' x') i = on x (same-steps h h' x') i
on (step h x) (ask r h' x') i = absurd (steps-asks h h')
on (step h x) (seek a h' y x') i = absurd (steps-seeks h h')
on (ask r h x) none i = absurd (cc)
on (ask r h x) (quiet h' x') i = absurd (goes-asks h' h)
on (ask r h x) (step h' x') i = absurd (steps-asks h' h)
on (ask r h x) (ask r' h' x') i = on x (same-asks h h' i x') refl
on (ask r h x) (seek a h' y x') i = absurd (asks-seeks h h')
on {rs = rs} {us = us} (seek a h y x) none i = let b = both-empty rs us i in inr (b.1, seek a h y (rw b.0 at x))
on (seek a h y x) (quiet h' x') i = absurd (goes-seeks h' h)
on (seek a h y x) (step h' x') i = absurd (steps-seeks h' h)
on (seek a h y x) (ask r h' x') i = absurd (asks-seeks h' h)
on (seek a h y x) (seek a' h' y' x') i = on x (same-seeks h h' y y' x') i

-- ---- ends

record Same (l m : List Piece) (t u : State) (c d : Course) : Type 0 where
  todo : l ≡ m
  state : t ≡ u
  course : c ≡ d

stays : {g : Given} {l m : List Piece} {t u : State} {c d : Course} {us : List Reply} {o : Outcome}
    → By g l t c us m u d → advance g l (seen t c) ≡ Over o → Same l m t u c d
stays none e = record { todo = refl; state = refl; course = refl }
stays (quiet h x) e = absurd (goes-over h e)
stays (step h x) e = absurd (steps-over h e)
stays (ask r h x) e = absurd (asks-over h e)
stays (seek a h y x) e = absurd (seeks-over h e)

back : {l m : List Piece} {t u : State} {c d : Course} → Same m l u t d c → Same l m t u c d
back x = record { todo = sym x.todo; state = sym x.state; course = sym x.course }

later : {g : Given} {l m : List Piece} {t u : State} {c d : Course} {us : List Reply} → By g l t c us m u d
    → IsLater c.events d.events
later none = ([], refl)
later (quiet h x) = later x
later (step h x) = later x
later {c = c} (ask {w = w} r h x) = let y = later x in
    (y.0 ++ event w r ∷ [], y.1 ∙ sym (append_assoc y.0 (event w r ∷ []) c.events))
later (seek a h y x) = later x

abbrev Front : List Reply → List Reply → Type 0
Front qs rs = (us : List Reply) × (rs ≡ qs ++ us)

fronts : (qs rs : List Reply) → Alike qs rs → Front qs rs ⊎ Front rs qs
fronts [] rs h = inl (rs, refl)
fronts (q ∷ qs) [] h = inr (q ∷ qs, refl)
fronts (q ∷ qs) (r ∷ rs) h = elim (fronts qs rs h.1) [
  | inl x ↦ inl (x.0, ap (λ z. r ∷ z) x.1 ∙ ap (λ z. z ∷ (qs ++ x.0)) (sym h.0))
  | inr x ↦ inr (x.0, ap (λ z. q ∷ z) x.1 ∙ ap (λ z. z ∷ (rs ++ x.0)) h.0)
]

at_over : {g : Given} {k : List Piece} {s : State} {c : Course} {o : Outcome} {w : Option Want} → IsWhole o
    → Stands g k s c o w → advance g k (seen s c) ≡ Over o
at_over whole (over e) = e
at_over whole lacks = absurd whole
at_over whole (unlogged e) = absurd whole

abbrev ended : List Event → ℕ → Course
ended es n = record { events = es; used = n }

-- ---- the laws

module _ (g : Given) (es fs : List Event) (o p : Outcome) (m n : ℕ) (v w : Option Want) (x : Plays g es o m v)
    (y : Plays g fs p n w) (alike : Alike (replies es) (replies fs)) where
  a : Replied g (first_pieces g) (first_state g) nothing x.todo x.end (ended es m)
  a = replied x.chain

  b : Replied g (first_pieces g) (first_state g) nothing y.todo y.end (ended fs n)
  b = replied y.chain

  on_right : Front (replies es) (replies fs) → (us : List Reply) × Rest g x.todo x.end (ended es m) us y.todo y.end
      (ended fs n)
  on_right f = (f.0, on a.chain b.chain (sym b.grown ∙ f.1 ∙ ap (λ z. z ++ f.0) a.grown))

  on_left : Front (replies fs) (replies es) → (us : List Reply) × Rest g y.todo y.end (ended fs n) us x.todo x.end
      (ended es m)
  on_left f = (f.0, on b.chain a.chain (sym a.grown ∙ f.1 ∙ ap (λ z. z ++ f.0) b.grown))

  first_rest : {us : List Reply} → IsWhole p → Rest g x.todo x.end (ended es m) us y.todo y.end (ended fs n)
      → IsLater es fs
  first_rest whole (inl c) = later c
  first_rest whole (inr (e, c)) = let same = stays c (at_over whole y.stands) in ([], ap (λ z. z.events) same.course)

  last_rest : {us : List Reply} → IsWhole p → Rest g y.todo y.end (ended fs n) us x.todo x.end (ended es m)
      → IsLater es fs
  last_rest whole (inl c) = let same = stays c (at_over whole y.stands) in ([], ap (λ z. z.events) same.course)
  last_rest whole (inr (e, c)) = later c

  pub first_part : IsWhole p → IsLater es fs
  first_part whole = elim (fronts (replies es) (replies fs) alike) [
    | inl f ↦ first_rest whole (on_right f).1
    | inr f ↦
        last_rest whole (on_left f).1
  ]

  same_by : {us : List Reply} → IsWhole o → IsWhole p → Rest g x.todo x.end (ended es m) us y.todo y.end (ended fs n)
      → Same x.todo y.todo x.end y.end (ended es m) (ended fs n)
  same_by one two (inl c) = stays c (at_over one x.stands)
  same_by one two (inr (e, c)) = back (stays c (at_over two y.stands))

  same_back : {us : List Reply} → IsWhole o → IsWhole p → Rest g y.todo y.end (ended fs n) us x.todo x.end (ended es m)
      → Same x.todo y.todo x.end y.end (ended es m) (ended fs n)
  same_back one two (inl c) = back (stays c (at_over two y.stands))
  same_back one two (inr (e, c)) = stays c (at_over one x.stands)

  same : IsWhole o → IsWhole p → Same x.todo y.todo x.end y.end (ended es m) (ended fs n)
  same one two = elim (fronts (replies es) (replies fs) alike) [
    | inl f ↦ same_by one two (on_right f).1
    | inr f ↦
        same_back one two (on_left f).1
  ]

  pub one_run_of : IsWhole o → IsWhole p → (es ≡ fs) × (o ≡ p) × (m ≡ n)
  one_run_of one two =
      let s = same one two in
      let e = at_over one x.stands in
      let f = at_over two y.stands in
      let d : advance g y.todo (seen y.end (ended fs n)) ≡ Over o = rw (sym s.todo, sym s.state, sym s.course) e in
      (ap (λ z. z.events) s.course, same-end d f, ap (λ z. z.used) s.course)

pub one_run : OneRun
one_run g es fs o p m n v w x y alike one two = one_run_of g es fs o p m n v w x y alike one two

pub first_parts : FirstPart
first_parts g es fs o p m n v w x y alike whole = first_part g es fs o p m n v w x y alike whole
