-- Streams are opened: the table and the events stay of one mind.
use Rattle.std.proofs.Common.{◌≡◌, refl, sym, ◌∙◌, ap, arith, nat_eq, ℕ, ◌==◌, Bool, true, false, true≢false, ◌&&◌}
use Rattle.std.proofs.Common.{List, [], ◌∷◌, ◌++◌, map}
use Rattle.std.specs.Prelude.{Option, Some, None, if◌then◌else◌}
use Rattle.std.specs.Str.{bytes_eq}
use Rattle.std.proofs.lemmas.Bool.Decides.{nat_tests}
use Rattle.std.proofs.lemmas.List.{map-append}
use Rattle.std.proofs.lemmas.Slice.Eq.{bytes_eq-Decides}
use Rattle.awk_text.specs.declared.place.Place.{Place}
use Rattle.awk_fields.specs.Takes.{Input}
use Rattle.box_world.specs.declared.ask.Mode.{Mode}
use Rattle.box_world.specs.declared.ask.Reply.{Reply}
use Rattle.box_world.specs.declared.ask.Reply.TheVariants as reply
use Rattle.box_world.specs.Events.{Class, Key, Standard, Named, Opens, Want, Stream, class_number, find_stream}
use Rattle.box_world.specs.Events.{is_named, open_streams, streams_after}
use Rattle.awk_program.specs.Slots.{Text}
use Rattle.awk_machine.specs.State.{Course}
use Rattle.awk_machine.specs.Streams.{came, has_ended, same_key, with_event, with_bytes, ended_after}
use Rattle.awk_streams.specs.Tables.{Table, Entry, open_of, find_input}
use Rattle.awk_streams.specs.Tasks.{Distinct, IsTable, IsRead, IsSame, input_at, number_opened, entries_opened}

-- ---- keys

pub bool_same : (a b : Bool) → (a ≡ true → b ≡ true) → (b ≡ true → a ≡ true) → a ≡ b
bool_same true true f h = refl
bool_same true false f h = sym (f refl)
bool_same false true f h = h refl
bool_same false false f h = refl

pub number_is : (m n : ℕ) → nat_eq m n ≡ true → m ≡ n
number_is m n e = grind arith

pub number_eq : (m n : ℕ) → m ≡ n → nat_eq m n ≡ true
number_eq m n e = grind (arith, nat_tests)

number_sym : (m n : ℕ) → nat_eq m n ≡ nat_eq n m
number_sym m n = bool_same (nat_eq m n) (nat_eq n m) (λ e. number_eq n m (sym (number_is m n e)))
    (λ e. number_eq m n (sym (number_is n m e)))

bytes_sym : (s t : List ℕ) → bytes_eq s t ≡ bytes_eq t s
bytes_sym s t = bool_same (bytes_eq s t) (bytes_eq t s)
    (λ e. (bytes_eq-Decides t s).1 (sym ((bytes_eq-Decides s t).0 e)))
    (λ e. (bytes_eq-Decides s t).1 (sym ((bytes_eq-Decides t s).0 e)))

key_sym : (c d : Class) (s t : Text) → same_key (Named c s) (Named d t) ≡ same_key (Named d t) (Named c s)
key_sym c d s t = ap (λ x. x && bytes_eq s t) (number_sym (class_number c) (class_number d))
    ∙ ap (λ y. nat_eq (class_number d) (class_number c) && y) (bytes_sym s t)

pub both : (a b : Bool) → (a && b) ≡ true → (a ≡ true) × (b ≡ true)
both true b e = (refl, e)
both false b e = absurd (true≢false (sym e))

-- ---- entries

module _ (d : Class) (t : Text) where
  no_by : (b : Bool) (s : Stream) (input : Input) (ss : List Stream) (es : List Entry)
      → (find_stream d t ss ≡ None → find_input d t es ≡ None) →
      (if b then Some s.number else find_stream d t ss) ≡ None → (if b then Some input else find_input d t es) ≡ None
  no_by true s input ss es rest e = absurd (cc)
  no_by false s input ss es rest e = rest e

  pub no_input : (es : List Entry) → find_stream d t (map (λ e. e.stream) es) ≡ None → find_input d t es ≡ None
  no_input [] h = refl
  no_input (e ∷ es) h = no_by (is_named d t e.stream) e.stream e.input (map (λ e. e.stream) es) es (no_input es) h

  push_other : (es : List Entry) (e : Entry) → is_named d t e.stream ≡ false → find_input d t (es ++ e ∷ [])
      ≡ find_input d t es
  push_other [] e h = ap (λ b. if b then Some e.input else None) h
  push_other (x ∷ xs) e h = ap (λ o. if is_named d t x.stream then Some x.input else o) (push_other xs e h)

  new_by : (b : Bool) (x e : Entry) (xs : List Entry)
      → (find_input d t xs ≡ None → find_input d t (xs ++ e ∷ []) ≡ Some e.input) →
      (if b then Some x.input else find_input d t xs) ≡ None
      → (if b then Some x.input else find_input d t (xs ++ e ∷ [])) ≡ Some e.input
  new_by true x e xs rest n = absurd (cc)
  new_by false x e xs rest n = rest n

  push_new : (es : List Entry) (e : Entry) → is_named d t e.stream ≡ true → find_input d t es ≡ None
      → find_input d t (es ++ e ∷ []) ≡ Some e.input
  push_new [] e h n = ap (λ b. if b then Some e.input else None) h
  push_new (x ∷ xs) e h n = new_by (is_named d t x.stream) x e xs (push_new xs e h) n

-- a name that is the other is found where the other is
same_found : (c d : Class) (s t : Text) (ss : List Stream) → class_number d ≡ class_number c → t ≡ s
    → find_stream d t ss ≡ find_stream c s ss
same_found c d s t [] i j = refl
same_found c d s t (x ∷ xs) i j =
    let h : is_named d t x ≡ is_named c s x = ap (λ (n : ℕ). nat_eq n (class_number x.class) && bytes_eq t x.text) i
    ∙ ap (λ u. nat_eq (class_number c) (class_number x.class) && bytes_eq u x.text) j in
    ap (λ b. if b then Some x.number else find_stream d t xs) h ∙ ap (λ o. if is_named c s x then Some x.number else o)
    (same_found c d s t xs i j)

pub some_is : {A : Type 0} (x y : A) → Some x ≡ Some y → x ≡ y
some_is x y e = cc

-- ---- no two of one name

other_by : (d : Class) (t : Text) (b : Bool) (s x : Stream) (ss : List Stream) → is_named d t x ≡ false
    → (find_stream d t ss ≡ None → find_stream d t (ss ++ x ∷ []) ≡ None) →
    (if b then Some s.number else find_stream d t ss) ≡ None
    → (if b then Some s.number else find_stream d t (ss ++ x ∷ [])) ≡ None
other_by d t true s x ss f rest e = absurd (cc)
other_by d t false s x ss f rest e = rest e

push_none : (d : Class) (t : Text) (ss : List Stream) (x : Stream) → is_named d t x ≡ false → find_stream d t ss ≡ None
    → find_stream d t (ss ++ x ∷ []) ≡ None
push_none d t [] x f e = ap (λ b. if b then Some x.number else None) f
push_none d t (s ∷ ss) x f e = other_by d t (is_named d t s) s x ss f (push_none d t ss x f) e

first_by : (c : Class) (text : Text) (s : Stream) (ss : List Stream) (b : Bool) → is_named c text s ≡ b
    → (if b then Some s.number else find_stream c text ss) ≡ None → (is_named c text s ≡ false)
    × (find_stream c text ss ≡ None)
first_by c text s ss true f e = absurd (cc)
first_by c text s ss false f e = (f, e)

-- what is not named by the first is not named by its name
named_back : (c : Class) (text : Text) (n : ℕ) (s : Stream) → is_named c text s ≡ false
    → is_named s.class s.text (record { class = c; text = text; number = n }) ≡ false
named_back c text n s f = key_sym s.class c s.text text ∙ f

distinct_push : (c : Class) (text : Text) (n : ℕ) (ss : List Stream) → find_stream c text ss ≡ None → Distinct ss
    → Distinct (ss ++ (record { class = c; text = text; number = n }) ∷ [])
distinct_push c text n [] none d = (refl, tt)
distinct_push c text n (s ∷ ss) none d =
    let f = first_by c text s ss (is_named c text s) refl none in (
      push_none s.class s.text ss (record { class = c; text = text; number = n }) (named_back c text n s f.0) d.0,
      distinct_push c text n ss f.1 d.1,
    )

-- ---- what is taken and what came

-- of a stream that is opened nothing was taken
abbrev pub fresh : Class → Text → (Key → ℕ) → Key → ℕ
fresh c text taken other = if same_key (Named c text) other then 0 else taken other

abbrev pub opening : Place → Bool → Mode → Class → Text → Want
opening place given mode c text = record { place = place; given = given; wish = Opens mode c text }

pub input_same : (key : Key) (old new : Table) → IsSame old new → input_at key new ≡ input_at key old
input_same (Standard n) old new i = ap (λ x. if n == 0 then Some x else None) i.input
input_same (Named c text) old new i = ap (find_input c text) i.entries

pub tells_same : (old new : Table) (taken : Key → ℕ) (c : Course) → IsSame old new → IsTable old taken c
    → IsTable new taken c
tells_same old new taken c i a = record {
  streams = a.streams ∙ ap (map (λ e. e.stream)) (sym i.entries);
  distinct = rw i.entries a.distinct;
  inputs = λ key input e. a.inputs key input (sym (input_same key old new i) ∙ e);
}

-- a reply that opens nothing
abbrev Leaves : Mode → Class → Text → Reply → Type 0
Leaves mode c text r =
    ((ss : List Stream) → streams_after (Opens mode c text) r ss ≡ ss)
    × ((key : Key) (before : Text) → with_bytes key (Opens mode c text) r before ≡ before)
    × ((key : Key) (ended : Bool) → ended_after key (Opens mode c text) r ended ≡ ended)

left_by : (mode : Mode) (c : Class) (text : Text) (r : Reply) → number_opened r ≡ None → Leaves mode c text r
left_by mode c text (reply.Opened n) e = absurd (cc)
left_by mode c text (reply.Bytes b) e = (λ ss. refl, λ key t. refl, λ key b. refl)
left_by mode c text reply.End e = (λ ss. refl, λ key t. refl, λ key b. refl)
left_by mode c text reply.Done e = (λ ss. refl, λ key t. refl, λ key b. refl)
left_by mode c text (reply.Status z) e = (λ ss. refl, λ key t. refl, λ key b. refl)
left_by mode c text (reply.Value b) e = (λ ss. refl, λ key t. refl, λ key b. refl)
left_by mode c text reply.Failed e = (λ ss. refl, λ key t. refl, λ key b. refl)

module _ (place : Place) (given : Bool) (mode : Mode) (c : Class) (text : Text) (old : Table) (taken : Key
    → ℕ) (co : Course) (a : IsTable old taken co) (none : find_stream c text (open_of old) ≡ None) where
  -- a key of the name that is not open has no input
  not_open : (d : Class) (t : Text) → same_key (Named d t) (Named c text) ≡ true → find_input d t old.entries ≡ None
  not_open d t e =
      let b = both (nat_eq (class_number d) (class_number c)) (bytes_eq t text) e in
      no_input d t old.entries (same_found c d text t (open_of old) (number_is (class_number d) (class_number c) b.0)
      ((bytes_eq-Decides t text).0 b.1) ∙ none)

  pub tells_failed : (r : Reply) → number_opened r ≡ None
      → IsTable old (fresh c text taken) (with_event (opening place given mode c text) r co)
  tells_failed r e = record {
    streams = (left_by mode c text r e).0 (open_streams co.events) ∙ a.streams;
    distinct =
        a.distinct;
    inputs = inputs;
  }
    where
      l : Leaves mode c text r
      l = left_by mode c text r e

      named : (d : Class) (t : Text) (input : Input) (b : Bool) → same_key (Named d t) (Named c text) ≡ b
          → find_input d t old.entries ≡ Some input →
          IsRead (Named d t) input (fresh c text taken (Named d t)) (with_event (opening place given mode c text) r co)
      named d t input true f h = let n = not_open d t f in absurd (cc)
      named d t input false f h =
          let x = a.inputs (Named d t) input h in let k = key_sym c d text t ∙ f in
          record {
            unread = rw (k, l.1 (Named d t) (came (Named d t) co.events)) x.unread;
            ended =
                rw (l.2 (Named d t) (has_ended (Named d t) co.events)) x.ended;
            within =
                rw (k, l.1 (Named d t) (came (Named d t) co.events)) x.within;
          }

      inputs : (key : Key) (input : Input) → input_at key old ≡ Some input
          → IsRead key input (fresh c text taken key) (with_event (opening place given mode c text) r co)
      inputs (Standard m) input h =
          let x = a.inputs (Standard m) input h in
          record {
            unread = rw (l.1 (Standard m) (came (Standard m) co.events)) x.unread;
            ended =
                rw (l.2 (Standard m) (has_ended (Standard m) co.events)) x.ended;
            within =
                rw (l.1 (Standard m) (came (Standard m) co.events)) x.within;
          }
      inputs (Named d t) input h = named d t input (same_key (Named d t) (Named c text)) refl h

  pub tells_new : (n : ℕ) (new : Table) → new.entries ≡ entries_opened c text (Some n) old.entries
      → new.input ≡ old.input →
      IsTable new (fresh c text taken) (with_event (opening place given mode c text) (reply.Opened n) co)
  tells_new n new es same = record {
    streams = streams;
    distinct = rw (es, map-append (λ e. e.stream) old.entries)
        (distinct_push c text n (open_of old) none a.distinct);
    inputs = inputs;
  }
    where
      streams : open_streams co.events ++ (record { class = c; text = text; number = n }) ∷ [] ≡ open_of new
      streams = ap (λ ss. ss ++ (record { class = c; text = text; number = n }) ∷ []) a.streams
          ∙ sym (map-append (λ e. e.stream) old.entries _) ∙ ap (map (λ e. e.stream)) (sym es)

      named : (d : Class) (t : Text) (input : Input) (b : Bool) → same_key (Named d t) (Named c text) ≡ b
          → find_input d t (entries_opened c text (Some n) old.entries) ≡ Some input →
          IsRead (Named d t) input (fresh c text taken (Named d t)) (with_event (opening place given mode c text)
          (reply.Opened n) co)
      named d t input true f h =
          let k = key_sym c d text t ∙ f in
          let i : (record { unread = []; ended = false }) ≡ input =
          some_is _ input (sym (push_new d t old.entries _ f (not_open d t f)) ∙ h) in
          rw (← i) (record { unread = rw (k, f) refl; ended = rw f refl; within = rw (k, f) (omega arith) })
      named d t input false f h =
          let x = a.inputs (Named d t) input (sym (push_other d t old.entries _ f) ∙ h) in
          let k = key_sym c d text t ∙ f in
          record { unread = rw (k, f) x.unread; ended = rw f x.ended; within = rw (k, f) x.within }

      inputs : (key : Key) (input : Input) → input_at key new ≡ Some input
          → IsRead key input (fresh c text taken key) (with_event (opening place given mode c text) (reply.Opened n) co)
      inputs (Standard m) input h =
          let x = a.inputs (Standard m) input (sym (ap (λ y. if m == 0 then Some y else None) same) ∙ h) in
          record { unread = x.unread; ended = x.ended; within = x.within }
      inputs (Named d t) input h = named d t input (same_key (Named d t) (Named c text)) refl
          (sym (ap (find_input d t) es) ∙ h)

  pub tells_opening : (r : Reply) (found : Option ℕ) (new : Table) → number_opened r ≡ found
      → new.entries ≡ entries_opened c text found old.entries → new.input ≡ old.input →
      IsTable new (fresh c text taken) (with_event (opening place given mode c text) r co)
  tells_opening r None new e es same = tells_same old new (fresh c text taken)
      (with_event (opening place given mode c text) r co) (record { entries = es; input = same }) (tells_failed r e)
  tells_opening r (Some n) new e es same = rw (given_by r n e) (tells_new n new es same)
    where
      given_by : (r : Reply) (n : ℕ) → number_opened r ≡ Some n → r ≡ reply.Opened n
      given_by (reply.Opened m) n e = ap reply.Opened (some_is m n e)
      given_by (reply.Bytes b) n e = absurd (cc)
      given_by reply.End n e = absurd (cc)
      given_by reply.Done n e = absurd (cc)
      given_by (reply.Status z) n e = absurd (cc)
      given_by (reply.Value b) n e = absurd (cc)
      given_by reply.Failed n e = absurd (cc)

-- where no other stream has its name, no other entry has
pub none_named : (d : Class) (t : Text) (s : Stream) (es : List Entry) → is_named d t s ≡ true
    → find_stream s.class s.text (map (λ e. e.stream) es) ≡ None → find_input d t es ≡ None
none_named d t s es e none =
    let b = both (nat_eq (class_number d) (class_number s.class)) (bytes_eq t s.text) e in
    no_input d t es (same_found s.class d s.text t (map (λ x. x.stream) es)
    (number_is (class_number d) (class_number s.class) b.0) ((bytes_eq-Decides t s.text).0 b.1) ∙ none)
