-- What functions on texts, and a choice, make of values that are there.
use Rattle.std.proofs.Common.{◌≡◌, refl, ap, ℤ, true, false, List, [], ◌∷◌}
use Rattle.std.specs.Prelude.{Some, None, Ok}
use Rattle.awk_numbers.specs.declared.number.Number.TheVariants as number
use Rattle.awk_text.specs.Values.{number_of, text_of, truth}
use Rattle.awk_text.specs.declared.place.Place.{Place}
use Rattle.awk_text.specs.declared.value.Value.{Value}
use Rattle.awk_text.specs.declared.value.Value.TheVariants as v
use Rattle.awk_lib.specs.Texts.{substr}
use Rattle.awk_program.specs.Program as p
use Rattle.awk_program.specs.Program.{Expression}
use Rattle.awk_program.specs.declared.builtins.Builtin.{Builtin}
use Rattle.awk_program.specs.declared.builtins.Builtin.TheVariants as b
use Rattle.awk_machine.specs.Advances.{held}
use Rattle.awk_machine.specs.Builtins.{effect, gives, taking}
use Rattle.awk_machine.specs.Forms.{value}
use Rattle.awk_machine.specs.Pieces.{Part, Piece, At, Goes, Value_of, give}
use Rattle.awk_machine.specs.State.{Given, State}
use Rattle.awk_store.specs.Acts.{Passes}
use Rattle.awk_store.specs.Wholes.{Whole}
use Rattle.awk_store.proofs.Acting.{at_rest, moves}
use Rattle.awk_builtins.proofs.AtHand.{on}

module _ (g : Given) (w : Whole) where
  -- ---- a function of one argument, of two and of three, whatever it makes of them

  module _ (place : Place) (which : Builtin) where
    -- what a function comes to by the store's profile
    abbrev pub Comes : List Value → Value → Type 0
    Comes vs r = (s : State) → s.numbers ≡ w.0.numbers → effect place which vs s ≡ gives r

    comes : (vs : List Value) (r : Value) → Comes vs r → (k : List Piece) (s : State) → s.numbers ≡ w.0.numbers
        → held g s (taking place (effect place which vs s) k s) ≡ Goes (give r k) s
    comes vs r is k s by = ap (λ e. held g s (taking place e k s)) (is s by)

    pub one_there : (x : Expression) (a r : Value) → Passes g (value x) w (give a) w
        → Comes (a ∷ []) r →
        Passes g (value (p.builtin place which (p.more x p.none))) w (give r) w
    one_there x a r h is =
        let part : Part = Value_of (p.builtin place which (p.more x p.none)) in
        moves (on (moves {then_ = λ k. value x ∷ At part [] ∷ k} (at_rest _ w) (λ k hid d c. refl)) h)
        (λ k hid d c. comes (a ∷ []) r is k _ refl)

    pub two_there : (x y : Expression) (a b r : Value) → Passes g (value x) w (give a) w
        → Passes g (value y) w (give b) w → Comes (a ∷ b ∷ []) r →
        Passes g (value (p.builtin place which (p.more x (p.more y p.none)))) w (give r) w
    two_there x y a b r h m is =
        let part : Part = Value_of (p.builtin place which (p.more x (p.more y p.none))) in
        moves (on (moves {then_ = λ k. value y ∷ At part (a ∷ []) ∷ k}
        (on (moves {then_ = λ k. value x ∷ At part [] ∷ k} (at_rest _ w) (λ k hid d c. refl)) h)
        (λ k hid d c. refl)) m) (λ k hid d c. comes (a ∷ b ∷ []) r is k _ refl)

    pub three_there : (x y z : Expression) (a b c r : Value) → Passes g (value x) w (give a) w
        → Passes g (value y) w (give b) w → Passes g (value z) w (give c) w →
        Comes (a ∷ b ∷ c ∷ []) r
        → Passes g (value (p.builtin place which (p.more x (p.more y (p.more z p.none))))) w (give r) w
    three_there x y z a b c r h m n is =
        let part : Part = Value_of (p.builtin place which (p.more x (p.more y (p.more z p.none)))) in
        moves (on (moves {then_ = λ k. value z ∷ At part (b ∷ a ∷ []) ∷ k}
        (on (moves {then_ = λ k. value y ∷ At part (a ∷ []) ∷ k}
        (on (moves {then_ = λ k. value x ∷ At part [] ∷ k} (at_rest _ w) (λ k hid d e. refl)) h)
        (λ k hid d e. refl)) m) (λ k hid d e. refl)) n) (λ k hid d e. comes (a ∷ b ∷ c ∷ []) r is k _ refl)

  -- ---- what their values make

  pub whole_there : (place : Place) (x : Expression) (a : Value) (n : ℤ) → Passes g (value x) w (give a) w
      → number_of w.0.numbers a ≡ Ok (number.Whole n) → Passes g (value (p.builtin place b.Int (p.more x p.none))) w
      (give (v.Num n)) w
  whole_there place x a n h is = one_there place b.Int x a (v.Num n) h (λ s by. rw (by, is) refl)

  pub rest_there : (place : Place) (x y : Expression) (a e : Value) (from : ℤ) → Passes g (value x) w (give a) w
      → Passes g (value y) w (give e) w → number_of w.0.numbers e ≡ Ok (number.Whole from) →
      Passes g (value (p.builtin place b.Substr (p.more x (p.more y p.none)))) w
      (give (v.Text (substr (text_of a) from None))) w
  rest_there place x y a e from h m is = two_there place b.Substr x y a e (v.Text (substr (text_of a) from None)) h m
      (λ s by. rw (by, is) refl)

  pub part_there : (place : Place) (x y z : Expression) (a e c : Value) (from count : ℤ)
      → Passes g (value x) w (give a) w → Passes g (value y) w (give e) w → Passes g (value z) w (give c) w →
      number_of w.0.numbers e ≡ Ok (number.Whole from) → number_of w.0.numbers c ≡ Ok (number.Whole count)
      → Passes g (value (p.builtin place b.Substr (p.more x (p.more y (p.more z p.none))))) w
      (give (v.Text (substr (text_of a) from (Some count)))) w
  part_there place x y z a e c from count h m n first second = three_there place b.Substr x y z a e c
      (v.Text (substr (text_of a) from (Some count))) h m n (λ s by. rw (by, first, second) refl)

  -- ---- a choice

  tested : (x y z : Expression) (a : Value) → Passes g (value x) w (give a) w
      → Passes g (value (p.choose x y z)) w (λ k. At (Value_of (p.choose x y z)) (a ∷ []) ∷ k) w
  tested x y z a h = on (moves {then_ = λ k. value x ∷ At (Value_of (p.choose x y z)) [] ∷ k} (at_rest _ w)
      (λ k hid d a. refl)) h

  pub choice_then : (x y z : Expression) (a b : Value) → Passes g (value x) w (give a) w → truth w.0.numbers a ≡ true
      → Passes g (value y) w (give b) w → Passes g (value (p.choose x y z)) w (give b) w
  choice_then x y z a b h is m = on (moves {then_ = λ k. value y ∷ k} (tested x y z a h) (λ k hid d a. rw is refl)) m

  pub choice_else : (x y z : Expression) (a b : Value) → Passes g (value x) w (give a) w → truth w.0.numbers a ≡ false
      → Passes g (value z) w (give b) w → Passes g (value (p.choose x y z)) w (give b) w
  choice_else x y z a b h is m = on (moves {then_ = λ k. value z ∷ k} (tested x y z a h) (λ k hid d a. rw is refl)) m
