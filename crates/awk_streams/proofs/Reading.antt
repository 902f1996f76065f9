-- A stream is read: the table and the events stay of one mind.
use Rattle.std.proofs.Common.{◌≡◌, refl, sym, ◌∙◌, ap, subst, arith, nat_eq, ℕ, ◌≤◌, Bool, true, false, true≢false}
use Rattle.std.proofs.Common.{List, [], ◌∷◌, ◌++◌, drop, length, length-append, zero, suc, map, ◌==◌, ◌+◌, ◌-◌}
use Rattle.std.proofs.Common.{length-drop}
use Rattle.std.specs.Prelude.{Some, if◌then◌else◌, None, is_some}
use Rattle.std.specs.Str.{bytes_eq}
use Rattle.std.proofs.lemmas.Slice.Eq.{bytes_eq-Decides}
use Rattle.awk_text.specs.declared.place.Place.{Place}
use Rattle.awk_fields.specs.Takes.{Input}
use Rattle.box_world.specs.declared.ask.Reply.TheVariants as reply
use Rattle.box_world.specs.Events.{Class, OperandFile, InputFile, InputCommand, OutputFile, OutputCommand, Key}
use Rattle.box_world.specs.Events.{Standard, Named, Reads, class_number, is_named}
use Rattle.awk_program.specs.Slots.{Text}
use Rattle.awk_machine.specs.State.{Course}
use Rattle.awk_machine.specs.Streams.{came, same_key, want, with_event}
use Rattle.awk_streams.specs.Tables.{Table, Entry, find_input, with_input}
use Rattle.awk_streams.specs.Tasks.{IsTable, IsRead, IsReadAt, input_at}
use Rattle.awk_streams.proofs.Opened.{bool_same, both, number_is, some_is}

-- ---- keys

-- the class of a number
abbrev class_at : ℕ → Class
class_at zero = OperandFile
class_at (suc zero) = InputFile
class_at (suc (suc zero)) = InputCommand
class_at (suc (suc (suc zero))) = OutputFile
class_at (suc (suc (suc (suc n)))) = OutputCommand

class_back : (c : Class) → class_at (class_number c) ≡ c
class_back OperandFile = refl
class_back InputFile = refl
class_back InputCommand = refl
class_back OutputFile = refl
class_back OutputCommand = refl

pub class_is : (c d : Class) → class_number c ≡ class_number d → c ≡ d
class_is c d e = sym (class_back c) ∙ ap class_at e ∙ class_back d

pub key_is : (a b : Key) → same_key a b ≡ true → a ≡ b
key_is (Standard m) (Standard n) e = ap Standard (number_is m n e)
key_is (Standard m) (Named d t) e = absurd (true≢false (sym e))
key_is (Named c s) (Standard n) e = absurd (true≢false (sym e))
key_is (Named c s) (Named d t) e =
    let b = both (nat_eq (class_number c) (class_number d)) (bytes_eq s t) e in
    ap (λ x. Named x s) (class_is c d (number_is (class_number c) (class_number d) b.0))
    ∙ ap (Named d) ((bytes_eq-Decides s t).0 b.1)

-- ---- what came

drop_within : (n : ℕ) (xs ys : List ℕ) → n ≤ length xs → drop n (xs ++ ys) ≡ drop n xs ++ ys
drop_within zero xs ys h = refl
drop_within (suc n) [] ys h = absurd (omega arith)
drop_within (suc n) (x ∷ xs) ys h = drop_within n xs ys (omega arith)

module _ (place : Place) (key : Key) (old new : Table) (taken : Key → ℕ) (c : Course) (a : IsTable old taken c)
    (before : Input) (live : input_at key old ≡ Some before) where
  -- some bytes came
  pub tells_bytes : (bytes : Text) → before.ended ≡ false
      → IsReadAt key (record { unread = before.unread ++ bytes; ended = false }) old new
      → IsTable new taken (with_event (want place (Reads key)) (reply.Bytes bytes) c)
  tells_bytes bytes open_ r = record {
    streams = a.streams ∙ sym r.streams;
    distinct = rw r.streams a.distinct;
    inputs =
        λ other input h. named other input (same_key other key) refl h;
  }
    where
      named : (other : Key) (input : Input) (b : Bool) → same_key other key ≡ b → input_at other new ≡ Some input
          → IsRead other input (taken other) (with_event (want place (Reads key)) (reply.Bytes bytes) c)
      named other input true f h =
          let x = a.inputs key before live in
          let k = key_is other key f in
          let i : (record { unread = before.unread ++ bytes; ended = false }) ≡ input =
          some_is _ input (sym (r.inputs other
          ∙ ap (λ b. if b then Some (record { unread = before.unread ++ bytes; ended = false }) else input_at other
          old) f) ∙ h) in
          let y : IsRead other before (taken other) c = subst (λ z. IsRead z before (taken z) c) (sym k) x in
          rw (← i) (record {
            unread = rw f (ap (λ u. u ++ bytes) y.unread
                ∙ sym (drop_within (taken other) (came other c.events) bytes y.within));
            ended = sym open_ ∙ y.ended;
            within = rw f (let w = y.within in let l = length-append (came other c.events) bytes in
                omega (arith, w, l));
          })
      named other input false f h =
          let x = a.inputs other input
          (sym (r.inputs other ∙ ap (λ b. if b then Some (record { unread = before.unread ++ bytes; ended = false })
          else input_at other old) f) ∙ h) in
          record { unread = rw f x.unread; ended = x.ended; within = rw f x.within }

  -- the end came
  pub tells_end : IsReadAt key (record { unread = before.unread; ended = true }) old new
      → IsTable new taken (with_event (want place (Reads key)) reply.End c)
  tells_end r = record {
    streams = a.streams ∙ sym r.streams;
    distinct = rw r.streams a.distinct;
    inputs =
        λ other input h. named other input (same_key other key) refl h;
  }
    where
      named : (other : Key) (input : Input) (b : Bool) → same_key other key ≡ b → input_at other new ≡ Some input
          → IsRead other input (taken other) (with_event (want place (Reads key)) reply.End c)
      named other input true f h =
          let x = a.inputs key before live in
          let k = key_is other key f in
          let i : (record { unread = before.unread; ended = true }) ≡ input =
          some_is _ input (sym (r.inputs other
          ∙ ap (λ b. if b then Some (record { unread = before.unread; ended = true }) else input_at other old) f)
          ∙ h) in
          let y : IsRead other before (taken other) c = subst (λ z. IsRead z before (taken z) c) (sym k) x in
          rw (← i) (record { unread = y.unread; ended = rw f refl; within = y.within })
      named other input false f h =
          let x = a.inputs other input
          (sym (r.inputs other ∙ ap (λ b. if b then Some (record { unread = before.unread; ended = true }) else
          input_at other old) f) ∙ h) in
          record { unread = x.unread; ended = rw f x.ended; within = x.within }

-- nothing came
pub tells_unread : (place : Place) (key : Key) (table : Table) (taken : Key → ℕ) (c : Course) → IsTable table taken c
    → IsTable table taken (with_event (want place (Reads key)) reply.Failed c)
tells_unread place key table taken c a = record {
  streams = a.streams;
  distinct = a.distinct;
  inputs = λ other input e. let x = a.inputs other input e in
      record { unread = x.unread; ended = x.ended; within = x.within };
}

-- ---- what the table holds unread

with_streams : (c : Class) (text : Text) (f : Input → Input) (es : List Entry)
    → map (λ e. e.stream) (with_input c text f es) ≡ map (λ e. e.stream) es
with_streams c text f [] = refl
with_streams c text f (e ∷ es) = by (is_named c text e.stream) (with_streams c text f es)
  where
    by : (b : Bool) → map (λ e. e.stream) (with_input c text f es) ≡ map (λ e. e.stream) es →
        map (λ e. e.stream) (if b then record e { input = f e.input } ∷ es else e ∷ with_input c text f es)
        ≡ e.stream ∷ map (λ e. e.stream) es
    by true rest = refl
    by false rest = ap (λ ss. e.stream ∷ ss) rest

with_same : (c : Class) (text : Text) (f : Input → Input) (es : List Entry) (i : Input) → find_input c text es ≡ Some i
    → find_input c text (with_input c text f es) ≡ Some (f i)
with_same c text f [] i h = absurd (cc)
with_same c text f (e ∷ es) i h = by (is_named c text e.stream) refl h (with_same c text f es i)
  where
    by : (b : Bool) → is_named c text e.stream ≡ b → (if b then Some e.input else find_input c text es) ≡ Some i
        → (find_input c text es ≡ Some i → find_input c text (with_input c text f es) ≡ Some (f i)) →
        find_input c text (if b then record e { input = f e.input } ∷ es else e ∷ with_input c text f es) ≡ Some (f i)
    by true n p rest = ap (λ b. if b then Some (f e.input) else find_input c text es) n ∙ ap (λ x. Some (f x))
        (some_is e.input i p)
    by false n p rest = ap (λ b. if b then Some e.input else find_input c text (with_input c text f es)) n ∙ rest p

with_other : (c d : Class) (text t : Text) (f : Input → Input) (es : List Entry) → same_key (Named d t) (Named c text)
    ≡ false → find_input d t (with_input c text f es) ≡ find_input d t es
with_other c d text t f [] n = refl
with_other c d text t f (e ∷ es) n = by (is_named c text e.stream) refl (with_other c d text t f es n)
  where
    no : is_named c text e.stream ≡ true → is_named d t e.stream ≡ false
    no yes_ =
        let k = key_is (Named c text) (Named e.stream.class e.stream.text) yes_ in
        subst (λ z. same_key (Named d t) z ≡ false) k n

    by : (b : Bool) → is_named c text e.stream ≡ b → find_input d t (with_input c text f es) ≡ find_input d t es →
        find_input d t (if b then record e { input = f e.input } ∷ es else e ∷ with_input c text f es)
        ≡ (if is_named d t e.stream then Some e.input else find_input d t es)
    by true m rest =
        let x = no m in
        ap (λ b. if b then Some (f e.input) else find_input d t es) x
        ∙ sym (ap (λ b. if b then Some e.input else find_input d t es) x)
    by false m rest = ap (λ o. if is_named d t e.stream then Some e.input else o) rest

-- the entries say what a reading has changed
pub read_at : (c : Class) (text : Text) (f : Input → Input) (i : Input) (old new : Table)
    → find_input c text old.entries ≡ Some i → new.entries ≡ with_input c text f old.entries → new.input ≡ old.input →
    IsReadAt (Named c text) (f i) old new
read_at c text f i old new h es same =
    record {
      streams = ap (map (λ e. e.stream)) es ∙ with_streams c text f old.entries;
      live = ap is_some h;
      inputs =
          inputs;
    }
  where
    named : (d : Class) (t : Text) (b : Bool) → same_key (Named d t) (Named c text) ≡ b
        → find_input d t (with_input c text f old.entries) ≡ (if b then Some (f i) else find_input d t old.entries)
    named d t true k =
        let e = key_is (Named d t) (Named c text) k in
        subst (λ z. input_at z (record { entries = with_input c text f old.entries; input = old.input; room = 0 })
        ≡ Some (f i)) (sym e) (with_same c text f old.entries i h)
    named d t false k = with_other c d text t f old.entries k

    inputs : (other : Key)
        → input_at other new ≡ (if same_key other (Named c text) then Some (f i) else input_at other old)
    inputs (Standard n) = ap (λ x. if n == 0 then Some x else None) same
    inputs (Named d t) = ap (find_input d t) es ∙ named d t (same_key (Named d t) (Named c text)) refl

-- ---- a record is taken

drop_nil : (n : ℕ) → drop {A = ℕ} n [] ≡ []
drop_nil zero = refl
drop_nil (suc n) = refl

pub drop_drop : (m t : ℕ) (xs : List ℕ) → drop m (drop t xs) ≡ drop (t + m) xs
drop_drop m zero xs = let e : 0 + m ≡ m = omega arith in rw e refl
drop_drop m (suc t) [] = drop_nil m ∙ sym (drop_nil (suc t + m))
drop_drop m (suc t) (x ∷ xs) = let e : suc t + m ≡ suc (t + m) = omega arith in rw e (drop_drop m t xs)

-- what is left behind is what its length says
tail_of : (q : ℕ) (xs : List ℕ) → drop q xs ≡ drop (length xs - length (drop q xs)) xs
tail_of zero xs = let e : length xs - length xs ≡ 0 = omega arith in rw e refl
tail_of (suc q) [] = refl
tail_of (suc q) (x ∷ xs) =
    let l = length-drop q xs in
    let e : suc (length xs) - length (drop q xs) ≡ suc (length xs - length (drop q xs)) = omega (arith, l) in
    rw e (tail_of q xs)

key_same : (a b : Key) → same_key a b ≡ same_key b a
key_same a b = bool_same (same_key a b) (same_key b a) (λ e. turn a b (key_is a b e) e) (λ e. turn b a (key_is b a e) e)
  where
    turn : (x y : Key) → x ≡ y → same_key x y ≡ true → same_key y x ≡ true
    turn x y i e = subst (λ z. same_key z x ≡ true) i (subst (λ z. same_key x z ≡ true) (sym i) e)

-- the first record of what was held unread is taken, and the rest is left
pub tells_taken : (key : Key) (old new : Table) (taken : Key → ℕ) (c : Course) (before : Input) (rest : Text) (m : ℕ)
    → IsTable old taken c → input_at key old ≡ Some before → rest ≡ drop m before.unread →
    IsReadAt key (record { unread = rest; ended = before.ended }) old new
    → IsTable new (λ other. if same_key key other then length (came key c.events) - length rest else taken other) c
tells_taken key old new taken c before rest m a live is r = record {
  streams = a.streams ∙ sym r.streams;
  distinct =
      rw r.streams a.distinct;
  inputs = λ other input h. named other input (same_key other key) refl h;
}
  where
    behind : rest ≡ drop (length (came key c.events) - length rest) (came key c.events)
    behind =
        let x = a.inputs key before live in
        let i : rest ≡ drop (taken key + m) (came key c.events) = is ∙ ap (drop m) x.unread ∙ drop_drop m (taken key)
        (came key c.events) in
        i ∙ tail_of (taken key + m) (came key c.events) ∙ ap (λ z. drop (length (came key c.events) - length z)
        (came key c.events)) (sym i)

    at_key : IsRead key (record { unread = rest; ended = before.ended }) (length (came key c.events) - length rest) c
    at_key = let x = a.inputs key before live in record { unread = behind; ended = x.ended; within = omega arith }

    named : (other : Key) (input : Input) (b : Bool) → same_key other key ≡ b → input_at other new ≡ Some input →
        IsRead other input (if same_key key other then length (came key c.events) - length rest else taken other) c
    named other input true f h =
        let k = key_is other key f in
        let i : (record { unread = rest; ended = before.ended }) ≡ input =
        some_is _ input (sym (r.inputs other
        ∙ ap (λ b. if b then Some (record { unread = rest; ended = before.ended }) else input_at other old) f) ∙ h)
        in
        let s = key_same key other ∙ f in
        rw (s, ← i) (subst (λ z. IsRead z (record { unread = rest; ended = before.ended })
        (length (came key c.events) - length rest) c) (sym k) at_key)
    named other input false f h =
        let x = a.inputs other input
        (sym (r.inputs other ∙ ap (λ b. if b then Some (record { unread = rest; ended = before.ended }) else
        input_at other old) f) ∙ h) in
        let s = key_same key other ∙ f in
        rw s x
