-- A file is shut: the table and the events stay of one mind.
use Rattle.std.proofs.Common.{◌≡◌, refl, sym, ◌∙◌, ap, subst, nat_eq, ℕ, Bool, true, false, List, [], ◌∷◌, map}
use Rattle.std.specs.Prelude.{Some, None, if◌then◌else◌}
use Rattle.awk_text.specs.declared.place.Place.{Place}
use Rattle.awk_fields.specs.Takes.{Input}
use Rattle.box_world.specs.declared.ask.Reply.{Reply}
use Rattle.box_world.specs.Events.{Class, Key, Standard, Named, Shuts, Stream, find_stream, is_named, open_streams}
use Rattle.box_world.specs.Events.{without_stream}
use Rattle.awk_program.specs.Slots.{Text}
use Rattle.awk_machine.specs.State.{Course}
use Rattle.awk_machine.specs.Streams.{want, with_event}
use Rattle.awk_streams.specs.Tables.{Table, Entry, open_of, find_input, entries_without}
use Rattle.awk_streams.specs.Tasks.{Distinct, IsTable, IsRead, input_at}
use Rattle.awk_input.proofs.Opening.{none_named}

-- ---- a stream that is gone

pub without_streams : (c : Class) (text : Text) (es : List Entry) → without_stream c text (map (λ e. e.stream) es)
    ≡ map (λ e. e.stream) (entries_without c text es)
without_streams c text [] = refl
without_streams c text (e ∷ es) = by (is_named c text e.stream) (without_streams c text es)
  where
    by : (b : Bool) → without_stream c text (map (λ x. x.stream) es) ≡ map (λ x. x.stream) (entries_without c text es) →
        (if b then map (λ x. x.stream) es else e.stream ∷ without_stream c text (map (λ x. x.stream) es))
        ≡ map (λ x. x.stream) (if b then es else e ∷ entries_without c text es)
    by true rest = refl
    by false rest = ap (λ ss. e.stream ∷ ss) rest

none_without : (d : Class) (t : Text) (c : Class) (text : Text) (ss : List Stream) → find_stream d t ss ≡ None
    → find_stream d t (without_stream c text ss) ≡ None
none_without d t c text [] h = refl
none_without d t c text (s ∷ ss) h = by (is_named d t s) (is_named c text s) refl h (none_without d t c text ss)
  where
    by : (a b : Bool) → is_named d t s ≡ a → (if a then Some s.number else find_stream d t ss) ≡ None
        → (find_stream d t ss ≡ None → find_stream d t (without_stream c text ss) ≡ None) →
        find_stream d t (if b then ss else s ∷ without_stream c text ss) ≡ None
    by true b f x rest = absurd (cc)
    by false true f x rest = x
    by false false f x rest = ap (λ z. if z then Some s.number else find_stream d t (without_stream c text ss)) f
        ∙ rest x

distinct_without : (c : Class) (text : Text) (ss : List Stream) → Distinct ss → Distinct (without_stream c text ss)
distinct_without c text [] h = tt
distinct_without c text (s ∷ ss) h = by (is_named c text s) (distinct_without c text ss h.1)
  where
    by : (b : Bool) → Distinct (without_stream c text ss) → Distinct (if b then ss else s ∷ without_stream c text ss)
    by true rest = h.1
    by false rest = (none_without s.class s.text c text ss h.0, rest)

-- what another holds was held before
input_without : (c : Class) (text : Text) (d : Class) (t : Text) (input : Input) (es : List Entry)
    → Distinct (map (λ e. e.stream) es) → find_input d t (entries_without c text es) ≡ Some input
    → find_input d t es ≡ Some input
input_without c text d t input [] u h = h
input_without c text d t input (e ∷ es) u h = by (is_named d t e.stream) (is_named c text e.stream) refl h
    (input_without c text d t input es u.1)
  where
    by : (a b : Bool) → is_named d t e.stream ≡ a → find_input d t (if b then es else e ∷ entries_without c text es)
        ≡ Some input → (find_input d t (entries_without c text es) ≡ Some input → find_input d t es ≡ Some input) →
        (if a then Some e.input else find_input d t es) ≡ Some input
    by true true f x rest = let n = none_named d t e.stream es f u.0 in absurd (cc)
    by false true f x rest = x
    by true false f x rest = sym (ap (λ z. if z then Some e.input else find_input d t (entries_without c text es)) f)
        ∙ x
    by false false f x rest =
        rest (sym (ap (λ z. if z then Some e.input else find_input d t (entries_without c text es)) f) ∙ x)

pub tells_closed : (place : Place) (c : Class) (text : Text) (old new : Table) (taken : Key → ℕ) (co : Course)
    (r : Reply) → new.entries ≡ entries_without c text old.entries → new.input ≡ old.input → IsTable old taken co →
    IsTable new taken (with_event (want place (Shuts (Named c text))) r co)
tells_closed place c text old new taken co r es same a = record {
  streams = streams;
  distinct = distinct;
  inputs =
      inputs;
}
  where
    gone : without_stream c text (open_of old) ≡ open_of new
    gone = without_streams c text old.entries ∙ ap (map (λ e. e.stream)) (sym es)

    streams : without_stream c text (open_streams co.events) ≡ open_of new
    streams = ap (without_stream c text) a.streams ∙ gone

    distinct : Distinct (open_of new)
    distinct = subst Distinct gone (distinct_without c text (open_of old) a.distinct)

    inputs : (key : Key) (input : Input) → input_at key new ≡ Some input
        → IsRead key input (taken key) (with_event (want place (Shuts (Named c text))) r co)
    inputs (Standard m) input h =
        let x = a.inputs (Standard m) input (sym (ap (λ y. if nat_eq m 0 then Some y else None) same) ∙ h) in
        record { unread = x.unread; ended = x.ended; within = x.within }
    inputs (Named d t) input h =
        let x = a.inputs (Named d t) input (input_without c text d t input old.entries a.distinct
        (sym (ap (find_input d t) es) ∙ h)) in
        record { unread = x.unread; ended = x.ended; within = x.within }
