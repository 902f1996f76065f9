-- The table of streams, as contracts see it, after the calls of the map that holds it.
use Rattle.std.proofs.Common.{◌≡◌, ℕ, zero, suc, ◌<◌, Bool, true, false, cond, List, [], ◌∷◌, ◌++◌, map, length, get_or}
use Rattle.std.proofs.Common.{slice_get, position, Option, Some, None, is_some, refl, ap, sym, subst, ◌∙◌, true≢false}
use Rattle.std.proofs.Common.{arith}
use Rattle.std.specs.Prelude.{if◌then◌else◌}
use Rattle.std.specs.Option.{option_map}
use Rattle.std.specs.Map.{lookup, keys_of, values_of, remove_entry, set_value}
use Rattle.std.specs.List.{AllByRecursion, IsDistinct}
use Rattle.std.specs.Cmp.Lexicographic.{nat_list_eq_equiv}
use Rattle.std.proofs.lemmas.List.{length-map, get_or-map}
use Rattle.std.proofs.lemmas.List.Quantifiers.{position-Some}
use Rattle.std.proofs.lemmas.Map.Keys.{IsDistinct-head, IsDistinct-tail}
use Rattle.std.proofs.lemmas.Option.{same_Some, slice_get-get_or}
use Rattle.indexmap.specs.IndexMap.{insert_entry, set_value_at}
use Rattle.box_world.specs.Events.{Class, Stream, class_number, is_named, find_stream}
use Rattle.std.specs.Prelude.{Result, Ok, Err, OnOk, IfOk, IfErr, IfSome, IsOk}
use Rattle.awk_streams.specs.contracts.streams.KeptNamePartialEq.TheImpl.{eq-value}
use Rattle.awk_streams.specs.contracts.streams.StreamNameEquivalentKeptName.TheImpl.{equivalent-value}
use Rattle.awk_streams.specs.declared.streams.StreamName.{StreamName}
use Rattle.awk_streams.specs.declared.streams.KeptName.{KeptName}
use Rattle.awk_streams.specs.declared.streams.Open.{Open}
use Rattle.awk_fields.specs.Takes.{Input, Window}
use Rattle.awk_streams.specs.Tables.{kind, has_name, entry_of, entries_without, find_input, with_input}

-- a test of names by class and text
abbrev pub IsTest : (KeptName → Bool) → Class → List ℕ → Type 0
IsTest test c text = (e : KeptName × Open) → test e.0 ≡ is_named c text (entry_of e).stream

abbrev pub streams_of : List (KeptName × Open) → List Stream
streams_of es = map (λ e. e.stream) (map entry_of es)

module _ (test : KeptName → Bool) (c : Class) (text : List ℕ) (is : IsTest test c text) where
  pub find-entries : (es : List (KeptName × Open)) → find_stream c text (streams_of es) ≡ option_map (λ o. o.number)
      (lookup test es)
  find-entries [] = refl
  find-entries (e ∷ es) = rw (sym (is e)) (by (test e.0) (find-entries es))
    where
      by : (b : Bool) → find_stream c text (streams_of es) ≡ option_map (λ o. o.number) (lookup test es) →
          (if b then Some e.1.number else find_stream c text (streams_of es)) ≡ option_map (λ o. o.number)
          (cond b (Some e.1) (lookup test es))
      by true rest = refl
      by false rest = rest

  pub input-entries : (es : List (KeptName × Open)) → find_input c text (map entry_of es)
      ≡ option_map (λ o. o.reader.input) (lookup test es)
  input-entries [] = refl
  input-entries (e ∷ es) = rw (sym (is e)) (by (test e.0) (input-entries es))
    where
      by : (b : Bool) → find_input c text (map entry_of es) ≡ option_map (λ o. o.reader.input) (lookup test es) →
          (if b then Some e.1.reader.input else find_input c text (map entry_of es)) ≡ option_map (λ o. o.reader.input)
          (cond b (Some e.1) (lookup test es))
      by true rest = refl
      by false rest = rest

  pub without-entries : (es : List (KeptName × Open)) → entries_without c text (map entry_of es) ≡ map entry_of
      (remove_entry test es)
  without-entries [] = refl
  without-entries (e ∷ es) = rw (sym (is e)) (by (test e.0) (without-entries es))
    where
      by : (b : Bool) → entries_without c text (map entry_of es) ≡ map entry_of (remove_entry test es) →
          (if b then map entry_of es else entry_of e ∷ entries_without c text (map entry_of es)) ≡ map entry_of
          (cond b es (e ∷ remove_entry test es))
      by true rest = refl
      by false rest = ap (λ l. entry_of e ∷ l) rest

-- an entry whose reader is changed
module _ (test : KeptName → Bool) (c : Class) (text : List ℕ) (is : IsTest test c text) (change : Input → Input) where
  pub with_input-entries : (es : List (KeptName × Open)) (o : Open) (new : Window) → lookup test es ≡ Some o
      → new.input ≡ change o.reader.input → with_input c text change (map entry_of es) ≡ map entry_of
      (set_value test es (record o { reader = new }))
  with_input-entries [] o new h changed = refl
  with_input-entries (e ∷ es) o new h changed =
      rw (sym (is e)) (by (test e.0) h (λ p. with_input-entries es o new p changed))
    where
      by : (b : Bool) → cond b (Some e.1) (lookup test es) ≡ Some o
          → (lookup test es ≡ Some o → with_input c text change (map entry_of es) ≡ map entry_of
          (set_value test es (record o { reader = new }))) →
          (if b then record (entry_of e) { input = change (entry_of e).input } ∷ map entry_of es else entry_of e ∷
          with_input c text change (map entry_of es))
          ≡ map entry_of (cond b ((e.0, record o { reader = new }) ∷ es)
          (e ∷ set_value test es (record o { reader = new })))
      by true p rest = let q : o ≡ e.1 = cc in rw (changed, q) refl
      by false p rest = ap (λ l. entry_of e ∷ l) (rest p)

  pub with_input-absent : (es : List (KeptName × Open)) → lookup test es ≡ None
      → with_input c text change (map entry_of es) ≡ map entry_of es
  with_input-absent [] h = refl
  with_input-absent (e ∷ es) h = rw (sym (is e)) (by (test e.0) h (with_input-absent es))
    where
      by : (b : Bool) → cond b (Some e.1) (lookup test es) ≡ None
          → (lookup test es ≡ None → with_input c text change (map entry_of es) ≡ map entry_of es) →
          (if b then record (entry_of e) { input = change (entry_of e).input } ∷ map entry_of es else entry_of e ∷
          with_input c text change (map entry_of es)) ≡ entry_of e ∷ map entry_of es
      by true p rest = absurd (cc)
      by false p rest = ap (λ l. entry_of e ∷ l) (rest p)

-- an entry whose reader has the same input
pub same-entries : (test : KeptName → Bool) (es : List (KeptName × Open)) (o : Open) (new : Window)
    → lookup test es ≡ Some o → new.input ≡ o.reader.input
    → map entry_of (set_value test es (record o { reader = new })) ≡ map entry_of es
same-entries test [] o new h same = refl
same-entries test (e ∷ es) o new h same = by (test e.0) h (λ p. same-entries test es o new p same)
  where
    by : (b : Bool) → cond b (Some e.1) (lookup test es) ≡ Some o
        → (lookup test es ≡ Some o → map entry_of (set_value test es (record o { reader = new })) ≡ map entry_of es) →
        map entry_of (cond b ((e.0, record o { reader = new }) ∷ es)
        (e ∷ set_value test es (record o { reader = new }))) ≡ entry_of e ∷ map entry_of es
    by true p rest = let q : o ≡ e.1 = cc in rw (same, q) refl
    by false p rest = ap (λ l. entry_of e ∷ l) (rest p)

-- an entry that is put where it is stays
pub set_same : (test : KeptName → Bool) (es : List (KeptName × Open)) (o : Open) → lookup test es ≡ Some o
    → set_value test es o ≡ es
set_same test [] o h = refl
set_same test (e ∷ es) o h = by (test e.0) h (set_same test es o)
  where
    by : (b : Bool) → cond b (Some e.1) (lookup test es) ≡ Some o → (lookup test es ≡ Some o → set_value test es o ≡ es)
        → cond b ((e.0, o) ∷ es) (e ∷ set_value test es o) ≡ e ∷ es
    by true p rest = let q : o ≡ e.1 = cc in ap (λ (x : Open). (e.0, x) ∷ es) q
    by false p rest = ap (λ l. e ∷ l) (rest p)

-- a name that is not there goes last
pub insert-entries : (eq : KeptName → KeptName → Bool) (name : KeptName) (o : Open) (es : List (KeptName × Open))
    → lookup (eq name) es ≡ None →
    map entry_of (insert_entry eq es name o) ≡ map entry_of es ++ entry_of (name, o) ∷ []
insert-entries eq name o [] e = refl
insert-entries eq name o (x ∷ xs) e = by (eq name x.0) e (insert-entries eq name o xs)
  where
    by : (b : Bool) → cond b (Some x.1) (lookup (eq name) xs) ≡ None
        → (lookup (eq name) xs ≡ None → map entry_of (insert_entry eq xs name o) ≡ map entry_of xs
        ++ entry_of (name, o) ∷ []) →
        map entry_of (if b then (x.0, o) ∷ xs else x ∷ insert_entry eq xs name o) ≡ entry_of x ∷ map entry_of xs
        ++ entry_of (name, o) ∷ []
    by true p rest = absurd (cc)
    by false p rest = ap (λ l. entry_of x ∷ l) (rest p)

-- ---- the entry at a place

all_at : (P : KeptName → Type 0) (es : List (KeptName × Open)) (i : ℕ) (k : KeptName) (o : Open)
    → slice_get es i ≡ Some (k, o) → AllByRecursion P (keys_of es) → P k
all_at P [] i k o at all = absurd (true≢false (sym (ap is_some at)))
all_at P (e ∷ es) zero k o at all = subst (λ (x : KeptName × Open). P x.0) (same_Some e (k, o) at) all.0
all_at P (e ∷ es) (suc i) k o at all = all_at P es i k o at all.1

-- the one that a look-up found
found_at : (test : KeptName → Bool) (es : List (KeptName × Open)) (i : ℕ) → position test (keys_of es) ≡ Some i
    → (k : KeptName) × (o : Open) × (slice_get es i ≡ Some (k, o)) × (test k ≡ true)
found_at test [] i h = absurd (true≢false (sym (ap is_some h)))
found_at test (e ∷ es) i h =
    let k = position-Some test (keys_of (e ∷ es)) i e.0 h in
    let here : i < length (e ∷ es) = omega (arith, k.0, length-map (e ∷ es) (λ x. x.0)) in
    let x = get_or (e ∷ es) i e in
    let hit : test x.0 ≡ true = ap test (sym (get_or-map (λ (x : KeptName × Open). x.0) (e ∷ es) i e e.0 here)) ∙ k.1 in
    (x.0, x.1, slice_get-get_or (e ∷ es) i e here, hit)

pub found_if : (test : KeptName → Bool) (es : List (KeptName × Open)) (r : Option ℕ) → r ≡ position test (keys_of es)
    → IfSome r (λ i. (k : KeptName) × (o : Open) × (slice_get es i ≡ Some (k, o)) × (test k ≡ true))
found_if test es None h = tt
found_if test es (Some i) h = found_at test es i (sym h)

pub none_from : {A : Type 0} (x : Option A) → false ≡ is_some x → x ≡ None
none_from None e = refl
none_from (Some x) e = absurd (true≢false (sym e))

-- two kept names of one class and text are equal
same_name : (c : Class) (text : List ℕ) (x y : KeptName) → has_name c text x ≡ true → has_name c text y ≡ true
    → eq-value.it x y ≡ true
same_name c text x y p q =
    let n = class_number c ∷ text in
    let one = class_number (kind x.class) ∷ x.text.items in
    let other = class_number (kind y.class) ∷ y.text.items in
    sym (nat_list_eq_equiv.congr n one other p) ∙ q

-- what has a name of that class and text is found by that name
pub found_by : (c : Class) (text : List ℕ) (k : KeptName) → has_name c text k ≡ true → (es : List (KeptName × Open))
    → lookup (has_name c text) es ≡ lookup (eq-value.it k) es
found_by c text k h [] = refl
found_by c text k h (e ∷ es) =
    let same : has_name c text e.0 ≡ eq-value.it k e.0 = nat_list_eq_equiv.congr (class_number c ∷ text)
    (class_number (kind k.class) ∷ k.text.items) (class_number (kind e.0.class) ∷ e.0.text.items) h in
    rw same (ap (λ l. cond (eq-value.it k e.0) (Some e.1) l) (found_by c text k h es))

-- no name before that place is of the same class and text
module _ (c : Class) (text : List ℕ) where
  not_before : (e : KeptName × Open) (es : List (KeptName × Open)) (i : ℕ) (k : KeptName) (o : Open)
      → IsDistinct eq-value.it (keys_of (e ∷ es)) → slice_get es i ≡ Some (k, o) → has_name c text k ≡ true
      → has_name c text e.0 ≡ false
  not_before e es i k o d at hit = by (has_name c text e.0) refl
    where
      by : (b : Bool) → has_name c text e.0 ≡ b → b ≡ false
      by true here = absurd (true≢false (sym (same_name c text e.0 k here hit) ∙ all_at (λ y. eq-value.it e.0 y ≡ false)
          es i k o at (IsDistinct-head eq-value.it e.0 (keys_of es) d)))
      by false here = refl

  lookup_at : (es : List (KeptName × Open)) (i : ℕ) (k : KeptName) (o : Open) → IsDistinct eq-value.it (keys_of es)
      → slice_get es i ≡ Some (k, o) → has_name c text k ≡ true → lookup (has_name c text) es ≡ Some o
  lookup_at [] i k o d at hit = absurd (true≢false (sym (ap is_some at)))
  lookup_at (e ∷ es) zero k o d at hit = rw (same_Some e (k, o) at, hit) refl
  lookup_at (e ∷ es) (suc i) k o d at hit = rw (not_before e es i k o d at hit)
      (lookup_at es i k o (IsDistinct-tail eq-value.it e.0 (keys_of es) d) at hit)

  values_at : (es : List (KeptName × Open)) (i : ℕ) (k : KeptName) (o : Open) → slice_get es i ≡ Some (k, o)
      → slice_get (values_of es) i ≡ Some o
  values_at [] i k o at = absurd (true≢false (sym (ap is_some at)))
  values_at (e ∷ es) zero k o at = ap (λ (x : KeptName × Open). Some x.1) (same_Some e (k, o) at)
  values_at (e ∷ es) (suc i) k o at = values_at es i k o at

  pub not_gone : (es : List (KeptName × Open)) (i : ℕ) (k : KeptName) (o : Open) → slice_get es i ≡ Some (k, o)
      → (x : Option Open) → x ≡ slice_get (values_of es) i → x ≡ None → ⊥
  not_gone es i k o at x e none = true≢false (sym (ap is_some (sym none ∙ e ∙ values_at es i k o at)))

  pub open_at : (es : List (KeptName × Open)) (i : ℕ) (k : KeptName) (o : Open) → IsDistinct eq-value.it (keys_of es)
      → slice_get es i ≡ Some (k, o) → has_name c text k ≡ true →
      (x : Option Open) → x ≡ slice_get (values_of es) i → lookup (has_name c text) es ≡ x
  open_at es i k o d at hit x e = lookup_at es i k o d at hit ∙ sym (values_at es i k o at) ∙ sym e

  pub set_at : (es : List (KeptName × Open)) (i : ℕ) (k : KeptName) (o w : Open) → IsDistinct eq-value.it (keys_of es)
      → slice_get es i ≡ Some (k, o) → has_name c text k ≡ true → set_value_at es i w ≡ set_value (has_name c text) es w
  set_at [] i k o w d at hit = refl
  set_at (e ∷ es) zero k o w d at hit = rw (same_Some e (k, o) at, hit) refl
  set_at (e ∷ es) (suc i) k o w d at hit = rw (not_before e es i k o d at hit)
      (ap (λ l. e ∷ l) (set_at es i k o w (IsDistinct-tail eq-value.it e.0 (keys_of es) d) at hit))

-- ---- names

pub kept_test : (n : KeptName) → IsTest (eq-value.it n) (kind n.class) n.text.items
kept_test n e = refl

pub text_test : (c : Class) (text : List ℕ) → IsTest (has_name c text) c text
text_test c text e = refl

pub name_test : (q : StreamName) → IsTest (equivalent-value.it q) (kind q.class) q.text.now
name_test q e = refl

-- ---- results

pub on_ok : {A B P : Type 0} (r : Result A B) → IsOk r → OnOk r P → P
on_ok (Ok x) ok p = p
on_ok (Err x) ok p = absurd (cc)

pub none_of : {A B : Type 0} (f : A → B) (x : Option A) → option_map f x ≡ None → x ≡ None
none_of f None e = refl
none_of f (Some x) e = absurd (cc)

pub if_ok : {A B : Type 0} {P Q : A → Type 0} (r : Result A B) → ((x : A) → P x → Q x) → IfOk r P → IfOk r Q
if_ok (Ok x) f p = f x p
if_ok (Err x) f p = tt

pub if_err : {A B : Type 0} {P Q : B → Type 0} (r : Result A B) → ((x : B) → P x → Q x) → IfErr r P → IfErr r Q
if_err (Ok x) f p = tt
if_err (Err x) f p = f x p

pub some_of : {A : Type 0} (x y : A) → Some x ≡ Some y → x ≡ y
some_of x y e = cc
