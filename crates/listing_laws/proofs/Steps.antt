-- The steps that the proofs over the forms are made of.
use Rattle.std.proofs.Common.{ℕ, zero, suc, Bool, true, false, true≢false, List, [], ◌∷◌, ◌++◌, length, refl, sym}
use Rattle.std.specs.Prelude.{Option, Some, None, if◌then◌else◌, slice_get, reverse, Result, Ok, Err}
use Rattle.awk_text.specs.declared.place.Place.{Place}
use Rattle.awk_text.specs.declared.fault.Fault.{Fault}
use Rattle.awk_text.specs.declared.value.Value.{Value}
use Rattle.awk_text.specs.declared.value.Value.TheVariants as v
use Rattle.awk_text.specs.Values.{text_of, truth}
use Rattle.awk_program.specs.Slots.{Text}
use Rattle.awk_program.specs.Program as p
use Rattle.awk_program.specs.Program.{Expression, Expressions, Ere, expressions_of}
use Rattle.box_policy.specs.declared.policy.Kind.{Kind}
use Rattle.awk_machine.specs.Forms.{unary, binary, listed, each_by, each_of, if_true, deliver, checked}
use Rattle.awk_machine.specs.Getline.{counting, got}
use Rattle.awk_machine.specs.Pieces as m
use Rattle.awk_machine.specs.Pieces.{Part, Value_of, Target_of, Pattern_of, Piece, At, Do, Outcome, Next, Then, Goes}
use Rattle.awk_machine.specs.Pieces.{ends, give, granted}
use Rattle.awk_machine.specs.State.{State}
use Rattle.box_listing.specs.declared.site.Found.{Found}
use Rattle.box_listing.specs.Sites as s
use Rattle.listing_laws.specs.Covers.{IsText}
use Rattle.listing_laws.proofs.Standing.{Listed, Sub, Wanted, Says, hands, handed_by, Kept, Has, KnowsBy, Stack, Ready}
use Rattle.listing_laws.proofs.Standing.{Keeps}

-- each element of a list
abbrev pub Each : {A : Type 0} → (A → Type 0) → List A → Type 0
Each P [] = Unit {0}
Each P (x ∷ xs) = P x × Each P xs

abbrev pub Perhaps : {A : Type 0} → (A → Type 0) → Option A → Type 0
Perhaps P None = Unit {0}
Perhaps P (Some x) = P x

pub at_index : {A : Type 0} (P : A → Type 0) (xs : List A) (n : ℕ) → Each P xs → Perhaps P (slice_get xs n)
at_index P [] n h = tt
at_index P (x ∷ xs) zero h = h.0
at_index P (x ∷ xs) (suc n) h = at_index P xs n h.1

pub each_append : {A : Type 0} (P : A → Type 0) (xs ys : List A) → Each P xs → Each P ys → Each P (xs ++ ys)
each_append P [] ys h i = i
each_append P (x ∷ xs) ys h i = (h.0, each_append P xs ys h.1 i)

pub has_text : (c : Option Text) (x : Value) → Says c x → IsText c (text_of x)
has_text None x h = tt
has_text (Some text) x h = sym h

module _ (S : Listed) where
  -- ---- what is listed of a list

  pub front : (xs ys : List Found) → Sub S (xs ++ ys) → Sub S xs
  front [] ys h = tt
  front (x ∷ xs) ys h = (h.0, front xs ys h.1)

  pub back : (xs ys : List Found) → Sub S (xs ++ ys) → Sub S ys
  back [] ys h = h
  back (x ∷ xs) ys h = back xs ys h.1

  pub both : (xs ys : List Found) → Sub S xs → Sub S ys → Sub S (xs ++ ys)
  both [] ys h i = i
  both (x ∷ xs) ys h i = (h.0, both xs ys h.1 i)

  pub each_listed : (xs : Expressions) → Sub S (s.each xs) → Each (λ x. Sub S (s.value x)) (listed xs)
  each_listed p.none h = tt
  each_listed (p.more x xs) h = (front (s.value x) (s.each xs) h, each_listed xs (back (s.value x) (s.each xs) h))

  pub each_of_list : (xs : List Expression) → Sub S (s.all xs) → Each (λ x. Sub S (s.value x)) xs
  each_of_list [] h = tt
  each_of_list (x ∷ xs) h = (
    front (s.value x) (s.each (expressions_of xs)) h,
    each_of_list xs (back (s.value x) (s.each (expressions_of xs)) h),
  )

  -- ---- what is wanted at a site

  pub at_site : (place : Place) (kind : Kind) (c : Option Text) (text : Text) → Sub S (s.site place kind c)
      → IsText c text →
      Wanted S place false (Some (record { kind = kind; text = text }))
  at_site place kind c text h e = (
    record { place = place; kind = kind; text = c },
    h.0,
    record {
      same_place = refl;
      same_kind = refl;
      same_text =
          e;
    },
    λ f. absurd (true≢false (sym f)),
  )

  -- ---- pieces

  pub weaken : (c : Option Text) (k : List Piece) → Stack S (hands None) k → Stack S (hands c) k
  weaken c [] h = tt
  weaken c (At part vs ∷ k) h = (h.0, λ x says. h.1 x tt, h.2)
  weaken c (Do task ∷ k) h = h

  pub hand : (c : Option Text) (x : Value) (k : List Piece) → Says c x → Stack S (hands c) k → Ready S (give x k)
  hand c x [] says h = tt
  hand c x (At part vs ∷ k) says h = (h.0, h.1 x says, h.2)
  hand c x (Do task ∷ k) says h = h

  pub ended : (o : Outcome) → Ready S (ends o)
  ended o = (tt, tt)

  pub push_value : (x : Expression) (part : Part) (vs : List Value) (k : List Piece) → Sub S (s.value x) → Kept S part →
      KnowsBy S (hands (s.constant x)) part vs → Stack S (handed_by part) k
      → Ready S (At (Value_of x) [] ∷ At part vs ∷ k)
  push_value x part vs k a b c d = (a, tt, (b, c, d))

  pub push_target : (r : p.Reference) (part : Part) (vs : List Value) (k : List Piece) → Sub S (s.target r)
      → Kept S part →
      KnowsBy S (hands None) part vs → Stack S (handed_by part) k → Ready S (At (Target_of r) [] ∷ At part vs ∷ k)
  push_target r part vs k a b c d = (a, tt, (b, c, d))

  pub push_pattern : (y : Ere) (part : Part) (vs : List Value) (k : List Piece) → Sub S (s.ere y) → Kept S part →
      KnowsBy S (hands None) part vs → Stack S (handed_by part) k → Ready S (At (Pattern_of y) [] ∷ At part vs ∷ k)
  push_pattern y part vs k a b c d = (a, tt, (b, c, d))

  -- ---- moves

  pub through : {A : Type 0} (place : Place) (r : Result A Fault) (f : A → Then) (k : List Piece) (t : State)
      → ((x : A) → Keeps S (f x k t)) → Keeps S (granted place r f k t)
  through place (Ok x) f k t h = h x
  through place (Err fault) f k t h = ended (m.Faulted fault place)

  pub delivered : (place : Place) (r : Result Value Fault) (k : List Piece) (t : State) → Stack S (hands None) k
      → Keeps S (deliver place r k t)
  delivered place (Ok x) k t h = hand None x k tt h
  delivered place (Err fault) k t h = ended (m.Faulted fault place)

  pub one : (a : Piece) (part : Part) (f : Value → Then) (vs : List Value) (k : List Piece) (t : State)
      → Ready S (a ∷ At part [] ∷ k) →
      ((x : Value) → Keeps S (f x k t)) → Keeps S (unary a part f vs k t)
  one a part f [] k t h i = h
  one a part f (x ∷ vs) k t h i = i x

  pub two : (a b : Piece) (part : Part) (f : Value → Value → Then) (vs : List Value) (k : List Piece) (t : State)
      → Ready S (a ∷ At part [] ∷ k) →
      ((x : Value) → Ready S (b ∷ At part (x ∷ []) ∷ k)) → ((x y : Value) → Keeps S (f x y k t))
      → Keeps S (binary a b part f vs k t)
  two a b part f [] k t h i j = h
  two a b part f (x ∷ []) k t h i j = i x
  two a b part f (y ∷ x ∷ vs) k t h i j = j x y

  next_by : (o : Option Expression) (part : Part) (f : List Value → Then) (vs : List Value) (k : List Piece) (t : State)
      → Perhaps (λ x. Sub S (s.value x)) o → Kept S part →
      ((x : Value) → Has S part x vs) → Stack S (handed_by part) k → ((ws : List Value) → Keeps S (f ws k t))
      → Keeps S (each_by o part f vs k t)
  next_by None part f vs k t h kept has rest i = i (reverse vs)
  next_by (Some x) part f vs k t h kept has rest i = push_value x part vs k h kept (λ y says. has y) rest

  pub each : (xs : List Expression) (part : Part) (f : List Value → Then) (vs : List Value) (k : List Piece) (t : State)
      → Each (λ x. Sub S (s.value x)) xs → Kept S part →
      ((x : Value) → Has S part x vs) → Stack S (handed_by part) k → ((ws : List Value) → Keeps S (f ws k t))
      → Keeps S (each_of xs part f vs k t)
  each xs part f vs k t h kept has rest i = next_by (slice_get xs (length vs)) part f vs k t
      (at_index (λ x. Sub S (s.value x)) xs (length vs) h) kept has rest i

  either_by : (b : Bool) (k l : List Piece) (t : State) → Ready S k → Ready S l
      → Keeps S (if b then Goes k t else Goes l t)
  either_by true k l t h i = h
  either_by false k l t h i = i

  pub either : (x : Value) (k l : List Piece) (t : State) → Ready S k → Ready S l → Keeps S (if_true x k l t)
  either x k l t h i = either_by (truth t.numbers x) k l t h i

  pub ready_if : (b : Bool) (k l : List Piece) → Ready S k → Ready S l → Ready S (if b then k else l)
  ready_if true k l h i = h
  ready_if false k l h i = i

  pub looked : (y : Ere) (place : Place) (text : Text) (k : List Piece) → Ready S k → Ready S (checked y place text k)
  looked (p.constant at x) place text k h = h
  looked (p.computed x) place text k h = (tt, h)

  pub counted : (place : Place) (names : List Text) (k : List Piece) → Ready S k → Ready S (counting place names k)
  counted place [] k h = h
  counted place (name ∷ names) k h = (tt, counted place names k h)

  -- what a getline gives
  pub came : (place : Place) (to : m.Target) (counters : List Text) (x : Value) (k : List Piece) (t : State)
      → Stack S (hands None) k → Keeps S (got place to counters x k t)
  came place to counters (v.Input text) k t h = (tt, counted place counters _ (tt, h))
  came place to counters (v.Text text) k t h = hand None (v.Text text) k tt h
  came place to counters (v.Num n) k t h = hand None (v.Num n) k tt h
  came place to counters (v.Real x) k t h = hand None (v.Real x) k tt h
  came place to counters v.Unset k t h = hand None v.Unset k tt h
