-- What forms of one value or two make.
use Rattle.std.proofs.Common.{◌≡◌, ◌⊎◌, inl, inr, refl, ap, subst, ℤ, List, [], ◌∷◌}
use Rattle.std.specs.Prelude.{ℕ, pos, nat_abs, Result, Ok, Err, IfOk, IfErr}
use Rattle.awk_numbers.specs.declared.number.Number.{Number}
use Rattle.awk_numbers.specs.declared.number.Numbers.{Numbers}
use Rattle.awk_fields.specs.Rows.{place_of}
use Rattle.awk_format.specs.Directives.{◌>>=◌}
use Rattle.awk_text.specs.declared.fault.Fault.{Fault}
use Rattle.awk_text.specs.declared.fault.Fault.TheVariants as fault
use Rattle.awk_text.specs.declared.place.Place.{Place}
use Rattle.awk_text.specs.declared.value.Value.{Value}
use Rattle.awk_text.specs.declared.value.Value.TheVariants as v
use Rattle.awk_text.specs.Arithmetic.{whole_of}
use Rattle.awk_text.specs.Values.{number_of, of_number}
use Rattle.awk_program.specs.Program as p
use Rattle.awk_program.specs.Program.{Reference}
use Rattle.awk_program.specs.Slots.{Text}
use Rattle.awk_program.specs.declared.operators.Operator.{Operator}
use Rattle.awk_program.specs.declared.operators.Step.{Step}
use Rattle.awk_program.specs.declared.operators.StepValue.{StepValue}
use Rattle.awk_machine.specs.Advances.{advance, held}
use Rattle.awk_machine.specs.Operators.{computed, operation, stepped, of_count}
use Rattle.awk_machine.specs.Pieces.{Piece, At, Value_of, Then, Goes, granted}
use Rattle.awk_machine.specs.State.{State, Course, Given}
use Rattle.awk_machine.specs.Streams.{seen}
use Rattle.awk_machine.specs.Targets.{store, target}
use Rattle.awk_store.specs.States.{Hidden}
use Rattle.awk_store.specs.Wholes.{Whole, Agreeing, base}
use Rattle.awk_streams.specs.Chains.{result_at}
use Rattle.awk_store.specs.Acts.{Acts}
use Rattle.awk_store.proofs.Acting.{at_rest, moves, done}
use Rattle.awk_store.specs.Numbers.{valued}
use Rattle.awk_builtins.specs.Made.{as_text, both_numbers, of_both, stepping, storing}
use Rattle.awk_builtins.proofs.Granted.{given_or_lacks}

abbrev value_ok : Value → Result Value Fault
value_ok x = Ok x

-- ---- one move that cannot fail

pub gives_so : {A : Type 0} (g : Given) (w : Whole) (p : Piece) (on : A → List Piece → List Piece) (x : A) →
    ((k : List Piece) (hid : Hidden) (c : Course) → Agreeing g w hid c → advance g (p ∷ k) (seen (base g w hid) c)
    ≡ Goes (on x k) (seen (base g w hid) c)) → Acts g p on w (Ok x) w
gives_so g w p on x e = done (moves (at_rest _ w) e)

-- ---- texts

module _ (g : Given) (w : Whole) (p : Piece) (place : Place) (on : Value → List Piece → List Piece)
    (spec : Result Text Fault) where
  -- a text is made, and goes on as a value
  pub text_so : (made : Result Text Fault) → IfOk made (λ x. spec ≡ Ok x) → IfErr made (λ e. (e ≡ fault.Memory)
      ⊎ (spec ≡ Err e)) →
      ((k : List Piece) (hid : Hidden) (c : Course) → Agreeing g w hid c →
      advance g (p ∷ k) (seen (base g w hid) c) ≡ held g (seen (base g w hid) c)
      (granted place (as_text spec) (λ x k s. Goes (on x k) s) k (seen (base g w hid) c))) →
      Acts g p on w (result_at place (as_text made)) w
  text_so (Ok x) ok err e = given_or_lacks g w p place on (as_text spec) (as_text (Ok x)) (ap as_text ok) tt e
  text_so (Err f) ok (inl m) e = given_or_lacks g w p place on (as_text spec) (as_text (Err f)) tt (inl m) e
  text_so (Err f) ok (inr m) e = given_or_lacks g w p place on (as_text spec) (as_text (Err f)) tt (inr (ap as_text m))
      e

-- what goes on with a text goes on with it as a value
pub as_text_so : (place : Place) (spec : Result Text Fault) (f : Value → Then) (k : List Piece) (s : State)
    → granted place spec (λ x. f (v.Text x)) k s ≡ granted place (as_text spec) f k s
as_text_so place (Ok x) f k s = refl
as_text_so place (Err e) f k s = refl

-- ---- steps

pub both_so : (place : Place) (how : Step) (taken : StepValue) (r : Reference) (at x : Value) (g : Given)
    (k : List Piece) (s : State) →
    advance g (At (Value_of (p.step place how taken r)) (x ∷ at ∷ []) ∷ k) s
    ≡ held g s (granted place (both_numbers s.numbers how x) (λ n k s. Goes (stepping place taken r at n k) s) k s)
both_so place how taken r at x g k s = by_old (number_of s.numbers x) refl
  where
    by_new : (old : Number) (new : Result Number Fault) → number_of s.numbers x ≡ Ok old
        → stepped s.numbers how old ≡ new →
        advance g (At (Value_of (p.step place how taken r)) (x ∷ at ∷ []) ∷ k) s
        ≡ held g s (granted place (both_numbers s.numbers how x) (λ n k s. Goes (stepping place taken r at n k) s) k s)
    by_new old (Ok new) e f = rw (e, f) refl
    by_new old (Err met) e f = rw (e, f) refl

    by_old : (old : Result Number Fault) → number_of s.numbers x ≡ old →
        advance g (At (Value_of (p.step place how taken r)) (x ∷ at ∷ []) ∷ k) s
        ≡ held g s (granted place (both_numbers s.numbers how x) (λ n k s. Goes (stepping place taken r at n k) s) k s)
    by_old (Ok old) e = by_new old (stepped s.numbers how old) e refl
    by_old (Err met) e = rw e refl

-- ---- what is computed

pub number_so : (place : Place) (made : Result Number Fault) (f : Value → Then) (k : List Piece) (s : State)
    → granted place (valued made) f k s ≡ granted place made (λ n. f (of_number n)) k s
number_so place (Ok n) f k s = refl
number_so place (Err e) f k s = refl

-- what is stored is what the state's profile makes of it
pub storing_so : (numbers : Numbers) (place : Place) (made : Result Number Fault) (r : Reference) (at : Value)
    (k : List Piece) (s : State) → s.numbers ≡ numbers
    → granted place made (λ n. store (target r at) place (of_number n)) k s
    ≡ granted place made (λ n k s. Goes (storing numbers place r at n k) s) k s
storing_so numbers place (Ok n) r at k s e =
    ap (λ (ns : Numbers). Goes (storing ns place r at n k) s) e
storing_so numbers place (Err fault) r at k s e = refl

-- ---- the number of a field

place_is : (made : Result ℕ Fault) (z : ℤ) → (made >>= λ n. Ok (of_count n)) ≡ Ok (v.Num z) → pos (nat_abs z) ≡ z
place_is (Ok n) z e = subst (λ y. pos (nat_abs y) ≡ y) (the_same n z e) refl
  where
    the_same : (n : ℕ) (z : ℤ) → value_ok (v.Num (pos n)) ≡ value_ok (v.Num z) → pos n ≡ z
    the_same n z e = cc
place_is (Err met) z e = absurd (cc)

whole_is : (made : Result ℤ Fault) (z : ℤ) → (made >>= λ y. place_of y >>= λ n. Ok (of_count n)) ≡ Ok (v.Num z)
    → pos (nat_abs z) ≡ z
whole_is (Ok y) z e = place_is (place_of y) z e
whole_is (Err met) z e = absurd (cc)

-- it is at least 0
pub field_is : (made : Result Number Fault) (z : ℤ)
    → (made >>= λ y. whole_of y >>= λ u. place_of u >>= λ n. Ok (of_count n)) ≡ Ok (v.Num z) → pos (nat_abs z) ≡ z
field_is (Ok y) z e = whole_is (whole_of y) z e
field_is (Err met) z e = absurd (cc)

-- what is computed of two values is computed of their numbers
pub computed_so : (numbers : Numbers) (how : Operator) (x y : Value) → computed numbers how x y
    ≡ valued (of_both numbers how (number_of numbers x) (number_of numbers y))
computed_so numbers how x y = by_both (number_of numbers x) (number_of numbers y)
  where
    by_last : (made : Result Number Fault) → (made >>= λ z. value_ok (of_number z)) ≡ valued made
    by_last (Ok z) = refl
    by_last (Err e) = refl

    by_both : (a b : Result Number Fault)
        → (a >>= λ m. b >>= λ n. operation numbers how m n >>= λ z. value_ok (of_number z))
        ≡ valued (of_both numbers how a b)
    by_both (Err e) b = refl
    by_both (Ok m) (Err e) = refl
    by_both (Ok m) (Ok n) = by_last (operation numbers how m n)
