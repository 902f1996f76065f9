-- What a monitor passes on and tells of calls, as events.
use Rattle.std.proofs.Common.{◌≡◌, Bool, true, false, cond, List, [], ◌∷◌, ◌++◌, length, refl, ap, sym, ◌∙◌, subst}
use Rattle.std.proofs.Common.{append-nil, Option, Some, None}
use Rattle.std.specs.Prelude.{IsSome, is_none, option_to_list}
use Rattle.awk_text.specs.declared.place.Place.{Place}
use Rattle.box_world.specs.Calls.{Call}
use Rattle.box_world.specs.Events.{Event, Stream, Want, Wish, Opens, Reads, Writes, Shuts, Runs, Looks, Assigns, ask_of}
use Rattle.box_world.specs.Events.{calls, open_streams, request_of, streams_after}
use Rattle.box_world.specs.declared.ask.Reply.TheVariants.{Failed}
use Rattle.box_policy.specs.Rulebook.{Rulebook}
use Rattle.box_monitor.specs.Asked.{AllFailed, FailsIfDenied, after, asked, told}
use Rattle.box_monitor.specs.Denials.{after_ask, after_subject, denial_at, denial_of}
use Rattle.box_monitor.specs.Laws.{after-append, asked-append, told-append}
use Rattle.box_monitor.specs.Passed.{DeniedFail, after_events, after_want, denial_after, denial_of_want, passed_on}
use Rattle.box_monitor.specs.Passed.{subject_of_wish, told_of}
use Rattle.box_monitor.specs.Subjects.{subject_of}

-- the subject of a request is that of its wish, whatever is open
subject-same : (wish : Wish) (streams : List Stream) → subject_of (request_of wish streams) ≡ subject_of_wish wish
subject-same (Opens mode class text) streams = refl
subject-same (Reads key) streams = refl
subject-same (Writes key bytes) streams = refl
subject-same (Shuts key) streams = refl
subject-same (Runs command) streams = refl
subject-same (Looks name) streams = refl
subject-same (Assigns name text) streams = refl

pub denial-same : (book : Rulebook) (want : Want) (streams : List Stream) → denial_of book (ask_of want streams)
    ≡ denial_of_want book want
denial-same book want streams = ap (denial_at book want.place want.given) (subject-same want.wish streams)

after-same : (book : Rulebook) (want : Want) (streams : List Stream) → after_ask book (ask_of want streams)
    ≡ after_want book want
after-same book want streams = ap (after_subject book want.given) (subject-same want.wish streams)

-- a denied wish that failed opens and shuts nothing
failed-quiet : (book : Rulebook) (place : Place) (given : Bool) (wish : Wish) (streams : List Stream)
    → is_none (denial_at book place given (subject_of_wish wish)) ≡ false → streams_after wish Failed streams ≡ streams
failed-quiet book place given (Opens mode class text) streams h = refl
failed-quiet book place given (Reads key) streams h = refl
failed-quiet book place given (Writes key bytes) streams h = refl
failed-quiet book place given (Shuts key) streams h = cc
failed-quiet book place given (Runs command) streams h = refl
failed-quiet book place given (Looks name) streams h = refl
failed-quiet book place given (Assigns name text) streams h = refl

is-some : {A : Type 0} (o : Option A) → is_none o ≡ false → IsSome o
is-some None h = cc
is-some (Some x) h = refl

denied-quiet : (book : Rulebook) (e : Event) (streams : List Stream) → (IsSome (denial_of_want book e.want)
    → e.reply ≡ Failed)
    → is_none (denial_of_want book e.want) ≡ false → streams_after e.want.wish e.reply streams ≡ streams
denied-quiet book e streams failed h =
    ap (λ r. streams_after e.want.wish r streams) (failed (is-some (denial_of_want book e.want) h))
    ∙ failed-quiet book e.want.place e.want.given e.want.wish streams h

streams-at : (book : Rulebook) (e : Event) (es passed : List Event) (b : Bool) → is_none (denial_of_want book e.want)
    ≡ b
    → (IsSome (denial_of_want book e.want) → e.reply ≡ Failed) → open_streams passed ≡ open_streams es
    → open_streams (cond b (e ∷ passed) passed) ≡ open_streams (e ∷ es)
streams-at book e es passed true h failed same = ap (streams_after e.want.wish e.reply) same
streams-at book e es passed false h failed same = same ∙ sym (denied-quiet book e (open_streams es) failed h)

-- the same streams are open after what is passed on
pub streams-passed : (book : Rulebook) (es : List Event) → DeniedFail book es → open_streams (passed_on book es)
    ≡ open_streams es
streams-passed book [] failed = refl
streams-passed book (e ∷ es) failed =
    streams-at (after_events book es) e es (passed_on book es) (is_none (denial_after book es e.want)) refl failed.0
    (streams-passed book es failed.1)

-- the policy after the calls is that after the events
pub after-calls : (book : Rulebook) (es : List Event) → after book (calls es) ≡ after_events book es
after-calls book [] = refl
after-calls book (e ∷ es) =
    after-append book (calls es) ((ask_of e.want (open_streams es), e.reply) ∷ [])
    ∙ ap (λ b. after_ask b (ask_of e.want (open_streams es))) (after-calls book es)
    ∙ after-same (after_events book es) e.want (open_streams es)

-- what is told of the next ask after the calls is what is told after the events
pub denial-calls : (book : Rulebook) (es : List Event) (want : Want) (streams : List Stream)
    → denial_of (after book (calls es)) (ask_of want streams) ≡ denial_after book es want
denial-calls book es want streams = ap (λ b. denial_of b (ask_of want streams)) (after-calls book es)
    ∙ denial-same (after_events book es) want streams

asked-at : (e : Event) (es passed : List Event) (b : Bool) → open_streams passed ≡ open_streams es
    → calls passed ++ cond b ((ask_of e.want (open_streams es), e.reply) ∷ []) [] ≡ calls (cond b (e ∷ passed) passed)
asked-at e es passed true streams = ap (λ s. calls passed ++ (ask_of e.want s, e.reply) ∷ []) (sym streams)
asked-at e es passed false streams = append-nil (calls passed)

-- the calls that are asked of the world behind are the events that are passed on
pub asked-calls : (book : Rulebook) (es : List Event) → DeniedFail book es
    → asked book (calls es) ≡ calls (passed_on book es)
asked-calls book [] failed = refl
asked-calls book (e ∷ es) failed =
    asked-append book (calls es) ((ask_of e.want (open_streams es), e.reply) ∷ [])
    ∙ ap (λ z. z ++ asked (after book (calls es)) ((ask_of e.want (open_streams es), e.reply) ∷ []))
    (asked-calls book es failed.1)
    ∙ ap (λ d. calls (passed_on book es) ++ cond (is_none d) ((ask_of e.want (open_streams es), e.reply) ∷ []) [])
    (denial-calls book es e.want (open_streams es))
    ∙ asked-at e es (passed_on book es) (is_none (denial_after book es e.want)) (streams-passed book es failed.1)

-- and the log tells of the same
pub told-calls : (book : Rulebook) (es : List Event) → told book (calls es) ≡ told_of book es
told-calls book [] = refl
told-calls book (e ∷ es) =
    told-append book (calls es) ((ask_of e.want (open_streams es), e.reply) ∷ [])
    ∙ ap (λ z. z ++ told (after book (calls es)) ((ask_of e.want (open_streams es), e.reply) ∷ [])) (told-calls book es)
    ∙ ap (λ d. told_of book es ++ (option_to_list d ++ [])) (denial-calls book es e.want (open_streams es))
    ∙ ap (λ z. told_of book es ++ z) (append-nil (option_to_list (denial_after book es e.want)))

failed-front : (book : Rulebook) (xs ys : List Call) → AllFailed book (xs ++ ys) → AllFailed book xs
failed-front book [] ys p = tt
failed-front book (x ∷ xs) ys p = (p.0, failed-front (after_ask book x.0) xs ys p.1)

failed-last : (book : Rulebook) (xs : List Call) (y : Call) → AllFailed book (xs ++ y ∷ [])
    → FailsIfDenied (after book xs) y
failed-last book [] y p = p.0
failed-last book (x ∷ xs) y p = failed-last (after_ask book x.0) xs y p.1

pub denied-calls : (book : Rulebook) (es : List Event) → AllFailed book (calls es) → DeniedFail book es
denied-calls book [] p = tt
denied-calls book (e ∷ es) p = (
  subst (λ d. IsSome d → e.reply ≡ Failed) (denial-calls book es e.want (open_streams es))
      (failed-last book (calls es) _ p),
  denied-calls book es (failed-front book (calls es) _ p),
)
