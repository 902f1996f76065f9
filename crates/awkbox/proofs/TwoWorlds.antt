-- Two runs under one policy whose allowed requests get equal replies get equal replies to all of them.
use Rattle.std.proofs.Common.{◌≡◌, Bool, true, false, cond, List, [], ◌∷◌, ◌++◌, Option, refl, sym, ◌∙◌, ap, subst}
use Rattle.std.proofs.Common.{append_assoc, append-nil}
use Rattle.std.specs.Prelude.{is_none, IsSome, Some, None}
use Rattle.box_world.specs.declared.ask.Reply.{Reply}
use Rattle.box_world.specs.declared.ask.Reply.TheVariants.{Failed}
use Rattle.box_world.specs.Events.{Want, Event, calls}
use Rattle.box_policy.specs.Rulebook.{Rulebook}
use Rattle.box_monitor.specs.Lines.{log_text}
use Rattle.box_monitor.specs.Passed.{DeniedFail, after_events, after_want, denial_after, denial_of_want, passed_on}
use Rattle.box_monitor.specs.Passed.{told_of}
use Rattle.awk_machine.specs.Advances.{advance}
use Rattle.awk_machine.specs.Begins.{nothing}
use Rattle.awk_machine.specs.Laws.{replies, Alike, OneRun}
use Rattle.awk_machine.specs.Pieces.{Piece, Next, Goes, Steps, Asks, Seeks}
use Rattle.awk_machine.specs.Plays.{Reaches, here, goes, steps, asks, seeks}
use Rattle.awk_machine.specs.Questions.{Question, Answer, Right}
use Rattle.awk_machine.specs.State.{State, Course, Given}
use Rattle.awk_machine.specs.Streams.{event, seen, with_step, with_event}
use Rattle.awkbox.specs.Laws.{TwoWorlds}
use Rattle.awkbox.proofs.OneAnswer.{one_answer}

-- ---- a move is of one kind

goes-steps : {x : Next} {k l : List Piece} {s t : State} → x ≡ Goes k t → x ≡ Steps l s → ⊥
goes-steps e f = cc

goes-asks : {x : Next} {k : List Piece} {w : Want} {then_ : Reply → List Piece} {s t : State} → x ≡ Goes k t
    → x ≡ Asks w then_ s → ⊥
goes-asks e f = cc

goes-seeks : {x : Next} {k : List Piece} {q : Question} {then_ : Answer → List Piece} {s t : State} → x ≡ Goes k t
    → x ≡ Seeks q then_ s → ⊥
goes-seeks e f = cc

steps-asks : {x : Next} {k : List Piece} {w : Want} {then_ : Reply → List Piece} {s t : State} → x ≡ Steps k t
    → x ≡ Asks w then_ s → ⊥
steps-asks e f = cc

steps-seeks : {x : Next} {k : List Piece} {q : Question} {then_ : Answer → List Piece} {s t : State} → x ≡ Steps k t
    → x ≡ Seeks q then_ s → ⊥
steps-seeks e f = cc

asks-seeks : {x : Next} {w : Want} {h : Reply → List Piece} {q : Question} {then_ : Answer → List Piece} {s t : State}
    → x ≡ Asks w h t → x ≡ Seeks q then_ s → ⊥
asks-seeks e f = cc

-- ---- a chain of moves with these events, the oldest first

data By (g : Given) : List Piece → State → Course → List Event → Type 0 where
  none : {k : List Piece} {s : State} {c : Course} → By g k s c []
  quiet : {k l : List Piece} {s t : State} {c : Course} {es : List Event} → advance g k (seen s c) ≡ Goes l t
      → By g l (seen t c) c es → By g k s c es
  step : {k l : List Piece} {s t : State} {c : Course} {es : List Event} → advance g k (seen s c) ≡ Steps l t
      → By g l (seen t (with_step c)) (with_step c) es → By g k s c es
  ask : {k : List Piece} {s t : State} {c : Course} {w : Want} {then_ : Reply → List Piece} {es : List Event}
      (r : Reply) →
      advance g k (seen s c) ≡ Asks w then_ t → By g (then_ r) (seen t (with_event w r c)) (with_event w r c) es
      → By g k s c (event w r ∷ es)
  seek : {k : List Piece} {s t : State} {c : Course} {q : Question} {then_ : Answer → List Piece} {es : List Event}
      (a : Answer) →
      advance g k (seen s c) ≡ Seeks q then_ t → Right q a → By g (then_ a) (seen t c) c es → By g k s c es

-- the events that come after those, of which the newest stands first
abbrev since : List Event → List Event → List Event
since [] es = es
since (x ∷ xs) es = since xs (x ∷ es)

record Trail (g : Given) (k : List Piece) (s : State) (c d : Course) : Type 0 where
  events : List Event
  chain : By g k s c events
  grown : d.events ≡ since events c.events

trail : {g : Given} {k m : List Piece} {s u : State} {c d : Course} → Reaches g k s c m u d → Trail g k s c d
trail here = record { events = []; chain = none; grown = refl }
trail (goes h x) = let r = trail x in record { events = r.events; chain = quiet h r.chain; grown = r.grown }
trail (steps h x) = let r = trail x in record { events = r.events; chain = step h r.chain; grown = r.grown }
trail (asks {w = w} reply h fits x) = let r = trail x in
    record { events = event w reply ∷ r.events; chain = ask reply h r.chain; grown = r.grown }
trail (seeks a h is x) = let r = trail x in record { events = r.events; chain = seek a h is r.chain; grown = r.grown }

same-goes : {g : Given} {x : Next} {k l : List Piece} {s t : State} {c : Course} {es : List Event} → x ≡ Goes k s
    → x ≡ Goes l t → By g l (seen t c) c es → By g k (seen s c) c es
same-goes {k = k} {l = l} {s = s} {t = t} e f y = let a : l ≡ k = cc in let b : t ≡ s = cc in rw (a, b) at y

same-steps : {g : Given} {x : Next} {k l : List Piece} {s t : State} {c : Course} {es : List Event} → x ≡ Steps k s
    → x ≡ Steps l t → By g l (seen t c) c es → By g k (seen s c) c es
same-steps {k = k} {l = l} {s = s} {t = t} e f y = let a : l ≡ k = cc in let b : t ≡ s = cc in rw (a, b) at y

same-want : {x : Next} {v w : Want} {f h : Reply → List Piece} {s t : State} → x ≡ Asks v f s → x ≡ Asks w h t → w ≡ v
same-want e f = cc

same-asks : {g : Given} {x : Next} {v w : Want} {f h : Reply → List Piece} {s t : State} {c : Course} {es : List Event}
    {r q : Reply} →
    x ≡ Asks v f s → x ≡ Asks w h t → q ≡ r → By g (h q) (seen t (with_event w q c)) (with_event w q c) es
    → By g (f r) (seen s (with_event v r c)) (with_event v r c) es
same-asks {v = v} {w = w} {f = f} {h = h} {s = s} {t = t} e e' y x =
    let b : w ≡ v = cc in let d : h ≡ f = cc in let j : t ≡ s = cc in
    rw (b, d, j, y) at x

same-seeks : {g : Given} {x : Next} {q q' : Question} {f h : Answer → List Piece} {s t : State} {c : Course}
    {es : List Event} {a a' : Answer} →
    x ≡ Seeks q f s → x ≡ Seeks q' h t → Right q a → Right q' a' → By g (h a') (seen t c) c es
    → By g (f a) (seen s c) c es
same-seeks {q = q} {q' = q'} {f = f} {h = h} {s = s} {t = t} {a = a} {a' = a'} e e' i i' x =
    let b : q' ≡ q = cc in let d : h ≡ f = cc in let j : t ≡ s = cc in
    let y : a' ≡ a = one_answer q a' a (rw b at i') i in
    rw (d, j, y) at x

-- ---- the replies of such events

abbrev answers : List Event → List Reply
answers [] = []
answers (e ∷ es) = e.reply ∷ answers es

-- of those that are allowed, each judged after those before it
abbrev allowed : Rulebook → List Event → List Reply
allowed book [] = []
allowed book (e ∷ es) =
    cond (is_none (denial_of_want book e.want)) (e.reply ∷ allowed (after_want book e.want) es)
    (allowed (after_want book e.want) es)

-- each denied one failed
abbrev FailedSince : Rulebook → List Event → Type 0
FailedSince book [] = Unit {0}
FailedSince book (e ∷ es) = (IsSome (denial_of_want book e.want) → e.reply ≡ Failed)
    × FailedSince (after_want book e.want) es

denied : (book : Rulebook) (w : Want) (q r : Reply) → is_none (denial_of_want book w) ≡ false
    → (IsSome (denial_of_want book w) → q ≡ Failed) → (IsSome (denial_of_want book w) → r ≡ Failed) → q ≡ r
denied book w q r h f g = some (denial_of_want book w) h f g
  where
    some : {A : Type 0} (o : Option A) → is_none o ≡ false → (IsSome o → q ≡ Failed) → (IsSome o → r ≡ Failed) → q ≡ r
    some None h f g = cc
    some (Some x) h f g = f refl ∙ sym (g refl)

-- at a request that both make the replies are equal, and the rest of the allowed ones are alike
at_once : (book : Rulebook) (w : Want) (q r : Reply) (qs rs : List Reply) (b : Bool) → is_none (denial_of_want book w)
    ≡ b →
    (IsSome (denial_of_want book w) → q ≡ Failed) → (IsSome (denial_of_want book w) → r ≡ Failed) →
    Alike (cond b (q ∷ qs) qs) (cond b (r ∷ rs) rs) → (q ≡ r) × Alike qs rs
at_once book w q r qs rs true h f g like = like
at_once book w q r qs rs false h f g like = (denied book w q r h f g, like)

nothing_alike : (qs : List Reply) → Alike qs []
nothing_alike [] = tt
nothing_alike (q ∷ qs) = tt

-- the same request after the same events
first_alike : (book : Rulebook) (v w : Want) (q r : Reply) (es fs : List Event) → w ≡ v
    → FailedSince book (event v q ∷ es) → FailedSince book (event w r ∷ fs) →
    Alike (allowed book (event v q ∷ es)) (allowed book (event w r ∷ fs)) →
    (q ≡ r) × Alike (allowed (after_want book v) es) (allowed (after_want book v) fs)
    × FailedSince (after_want book v) fs
first_alike book v w q r es fs e f g like =
    let late : FailedSince book (event v r ∷ fs) = subst (λ (z : Want). FailedSince book (event z r ∷ fs)) e g in
    let both = at_once book v q r (allowed (after_want book v) es) (allowed (after_want book v) fs)
    (is_none (denial_of_want book v)) refl f.0 late.0
    (subst (λ (z : Want). Alike (allowed book (event v q ∷ es)) (allowed book (event z r ∷ fs))) e like) in
    (both.0, both.1, late.1)

meet : {g : Given} {k : List Piece} {s : State} {c : Course} {es fs : List Event} (book : Rulebook) → By g k s c es
    → By g k s c fs → FailedSince book es → FailedSince book fs →
    Alike (allowed book es) (allowed book fs) → Alike (answers es) (answers fs)
meet book none y a b like = tt
meet {es = es} book (quiet h x) none a b like = nothing_alike (answers es)
meet book (quiet h x) (quiet h' y) a b like = meet book x (same-goes h h' y) a b like
meet book (quiet h x) (step h' y) a b like = absurd (goes-steps h h')
meet book (quiet h x) (ask r h' y) a b like = absurd (goes-asks h h')
meet book (quiet h x) (seek i h' z y) a b like = absurd (goes-seeks h h')
meet {es = es} book (step h x) none a b like = nothing_alike (answers es)
meet book (step h x) (quiet h' y) a b like = absurd (goes-steps h' h)
meet book (step h x) (step h' y) a b like = meet book x (same-steps h h' y) a b like
meet book (step h x) (ask r h' y) a b like = absurd (steps-asks h h')
meet book (step h x) (seek i h' z y) a b like = absurd (steps-seeks h h')
meet book (ask r h x) none a b like = tt
meet book (ask r h x) (quiet h' y) a b like = absurd (goes-asks h' h)
meet book (ask r h x) (step h' y) a b like = absurd (steps-asks h' h)
meet book (ask {w = v} {es = es} q h x) (ask {w = w} {es = fs} r h' y) a b like =
    let p = first_alike book v w q r es fs (same-want h h') a b like in
    (p.0, meet (after_want book v) x (same-asks h h' (sym p.0) y) a.1 p.2 p.1)
meet book (ask r h x) (seek i h' z y) a b like = absurd (asks-seeks h h')
meet {es = es} book (seek i h z x) none a b like = nothing_alike (answers es)
meet book (seek i h z x) (quiet h' y) a b like = absurd (goes-seeks h' h)
meet book (seek i h z x) (step h' y) a b like = absurd (steps-seeks h' h)
meet book (seek i h z x) (ask r h' y) a b like = absurd (asks-seeks h' h)
meet book (seek i h z x) (seek i' h' z' y) a b like = meet book x (same-seeks h h' z z' y) a b like

-- ---- the same of events of which the newest stands first

answers_since : (xs es : List Event) → replies (since xs es) ≡ replies es ++ answers xs
answers_since [] es = sym (append-nil (replies es))
answers_since (x ∷ xs) es = answers_since xs (x ∷ es) ∙ append_assoc (replies es) (x.reply ∷ []) (answers xs)

one_since : (x : Event) (passed : List Event) (later : List Reply) (b : Bool) → replies (cond b (x ∷ passed) passed)
    ++ later ≡ replies passed ++ cond b (x.reply ∷ later) later
one_since x passed later true = append_assoc (replies passed) (x.reply ∷ []) later
one_since x passed later false = refl

module _ (book : Rulebook) where
  allowed_since : (xs es : List Event) → replies (passed_on book (since xs es)) ≡ replies (passed_on book es)
      ++ allowed (after_events book es) xs
  allowed_since [] es = sym (append-nil (replies (passed_on book es)))
  allowed_since (x ∷ xs) es =
      allowed_since xs (x ∷ es) ∙ one_since x (passed_on book es) (allowed (after_events book (x ∷ es)) xs)
      (is_none (denial_after book es x.want))

  failed_since : (xs es : List Event) → DeniedFail book (since xs es) → FailedSince (after_events book es) xs
      × DeniedFail book es
  failed_since [] es h = (tt, h)
  failed_since (x ∷ xs) es h = let p = failed_since xs (x ∷ es) h in ((p.1.0, p.0), p.1.1)

  all_alike : {g : Given} {k : List Piece} {s : State} {l m : List Piece} {t u : State} {d e : Course}
      → Reaches g k s nothing l t d → Reaches g k s nothing m u e →
      DeniedFail book d.events → DeniedFail book e.events
      → Alike (replies (passed_on book d.events)) (replies (passed_on book e.events))
      → Alike (replies d.events) (replies e.events)
  all_alike {d = d} {e = e} x y a b like =
      let p = trail x in
      let q = trail y in
      let same = meet book p.chain q.chain (failed_since p.events [] (subst (DeniedFail book) p.grown a)).0
      (failed_since q.events [] (subst (DeniedFail book) q.grown b)).0
      (rw (p.grown, q.grown, allowed_since p.events [], allowed_since q.events []) at like) in
      rw (p.grown, q.grown, answers_since p.events [], answers_since q.events []) same

-- ---- the law

pub two_worlds : OneRun → TwoWorlds
two_worlds one book g es fs o p m n v w x y like whole too =
    let same = one g es fs o p m n v w x.plays y.plays (all_alike book x.plays.chain y.plays.chain x.failed y.failed
    like) whole too in
    record {
      events = ap (passed_on book) same.0;
      asked = ap (λ z. calls (passed_on book z)) same.0;
      outcome = same.1;
      used = same.2;
      lines = ap (λ z. log_text (told_of book z)) same.0;
    }
