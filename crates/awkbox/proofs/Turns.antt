-- A policy lets through all that opens and shuts: what it denies has failed.
use Rattle.std.proofs.Common.{◌≡◌, ◌∙◌, ℕ, Bool, true, false, not, List, [], ◌∷◌, ◌++◌, Option, refl, sym, ap, subst}
use Rattle.std.proofs.Common.{true≢false}
use Rattle.std.specs.Prelude.{Some, None, if◌then◌else◌, is_none, IsSome}
use Rattle.awk_text.specs.declared.place.Place.{Place}
use Rattle.box_monitor.specs.Asked.{AllFailed, FailsIfDenied, after, asked as passed}
use Rattle.box_monitor.specs.Denials.{after_ask, denial_at, denial_of}
use Rattle.box_monitor.specs.Passed.{DeniedFail}
use Rattle.box_monitor.specs.Subjects.{subject_of}
use Rattle.box_policy.specs.Rulebook.{Rulebook}
use Rattle.box_world.specs.Calls.{Call}
use Rattle.box_world.specs.Events.{Event, ask_of, calls, open_streams}
use Rattle.box_world.specs.declared.ask.Reply.TheVariants as reply
use Rattle.box_world.specs.declared.ask.Request.{Request}
use Rattle.box_world.specs.declared.ask.Request.TheVariants.{Open, Next as Reading, Put, Shut, System, Env, Assign}
use Rattle.listing_laws.specs.Turns.{opens, shuts, TakesTurns, NumbersShut}
use Rattle.awkbox.specs.Turns.{PassedShut}
use Rattle.awkbox.proofs.Passing.{asked-calls, denial-calls}

-- what is denied and failed opens and shuts nothing
quiet : (book : Rulebook) (place : Place) (given : Bool) (q : Request) (n : ℕ) →
    is_none (denial_at book place given (subject_of q)) ≡ false →
    (shuts n q ≡ false) × (opens n q reply.Failed ≡ false)
quiet book place given (Open mode text) n h = (refl, refl)
quiet book place given (Reading k) n h = (refl, refl)
quiet book place given (Put k x) n h = (refl, refl)
quiet book place given (Shut k) n h = absurd (true≢false h)
quiet book place given (System x) n h = (refl, refl)
quiet book place given (Env x) n h = (refl, refl)
quiet book place given (Assign x y) n h = (refl, refl)

some : {A : Type 0} (o : Option A) → is_none o ≡ false → IsSome o
some None h = absurd (true≢false h)
some (Some x) h = refl

denied_turn : (book : Rulebook) (c : Call) (n : ℕ) (b : Bool) (cs : List Call) → FailsIfDenied book c →
    is_none (denial_of book c.0) ≡ false → TakesTurns n b (c ∷ cs) →
    TakesTurns n b cs
denied_turn book c n true cs failed d t = subst (λ z. TakesTurns n (not z) cs)
    (quiet book c.0.place c.0.given c.0.request n d).0 t.1
denied_turn book c n false cs failed d t =
    let r = failed (some (denial_of book c.0) d) in
    subst (λ z. TakesTurns n z cs) (ap (opens n c.0.request) r ∙ (quiet book c.0.place c.0.given c.0.request n d).1) t.1

passed_turn : (c : Call) (n : ℕ) (b : Bool) (cs ds : List Call) → TakesTurns n b (c ∷ cs) → ((b : Bool) →
    TakesTurns n b cs → TakesTurns n b ds) → TakesTurns n b (c ∷ ds)
passed_turn c n true cs ds t f = (t.0, f (not (shuts n c.0.request)) t.1)
passed_turn c n false cs ds t f = (t.0, f (opens n c.0.request c.1) t.1)

passed_by : (book : Rulebook) (c : Call) (n : ℕ) (b : Bool) (cs ds : List Call) (allowed : Bool) →
    FailsIfDenied book c → is_none (denial_of book c.0) ≡ allowed →
    TakesTurns n b (c ∷ cs) → ((b : Bool) → TakesTurns n b cs → TakesTurns n b ds) →
    TakesTurns n b (if allowed then c ∷ ds else ds)
passed_by book c n b cs ds true failed e t f = passed_turn c n b cs ds t f
passed_by book c n b cs ds false failed e t f = f b (denied_turn book c n b cs failed e t)

pub passed_turns : (book : Rulebook) (n : ℕ) (b : Bool) (cs : List Call) → AllFailed book cs → TakesTurns n b cs →
    TakesTurns n b (passed book cs)
passed_turns book n b [] failed t = t
passed_turns book n b (c ∷ cs) failed t =
    passed_by book c n b cs (passed (after_ask book c.0) cs) (is_none (denial_of book c.0)) failed.0 refl t
    (λ z u. passed_turns (after_ask book c.0) n z cs failed.1 u)

failed_append : (book : Rulebook) (xs ys : List Call) → AllFailed book xs → AllFailed (after book xs) ys →
    AllFailed book (xs ++ ys)
failed_append book [] ys h i = i
failed_append book (x ∷ xs) ys h i = (h.0, failed_append (after_ask book x.0) xs ys h.1 i)

all_failed : (book : Rulebook) (es : List Event) → DeniedFail book es → AllFailed book (calls es)
all_failed book [] h = tt
all_failed book (e ∷ es) h =
    failed_append book (calls es) ((ask_of e.want (open_streams es), e.reply) ∷ []) (all_failed book es h.1)
    (subst (λ d. IsSome d → e.reply ≡ reply.Failed) (sym (denial-calls book es e.want (open_streams es))) h.0, tt)

pub passed_shut : NumbersShut → PassedShut
passed_shut law book g es o n w x whole =
    λ k. subst (TakesTurns k false) (asked-calls book es x.failed) (passed_turns book k false (calls es)
    (all_failed book es x.failed) (law g es o n w x.plays whole k))
