-- What goes by CONVFMT, by the machine's state and by the store, and where it changes nothing.
use Rattle.std.proofs.Common.{◌≡◌, ◌⊎◌, inl, inr, ap, refl, sym, ◌∙◌, ℤ, true, List, [], ◌∷◌}
use Rattle.std.specs.Float.{Float}
use Rattle.std.specs.Prelude.{drop, Option, Some, None, Result, Ok, Err}
use Rattle.awk_numbers.specs.declared.number.Number.{Number}
use Rattle.awk_text.specs.Values.{numeric, text_of}
use Rattle.awk_text.specs.declared.fault.Fault.{Fault}
use Rattle.awk_text.specs.declared.fault.Fault.TheVariants as fault
use Rattle.awk_text.specs.declared.place.Place.{Place}
use Rattle.awk_text.specs.declared.value.Value.{Value}
use Rattle.awk_text.specs.declared.value.Value.TheVariants as v
use Rattle.awk_format.specs.Directives.{◌>>=◌}
use Rattle.awk_format.specs.Formatted.{formatted}
use Rattle.awk_format.specs.NumberTexts.{formatted_with, is_usual}
use Rattle.awk_program.specs.Program as p
use Rattle.awk_program.specs.Program.{Expression}
use Rattle.awk_program.specs.declared.operators.Comparison.{Comparison}
use Rattle.awk_program.specs.declared.variables.Own.TheVariants as own
use Rattle.awk_machine.specs.Advances.{held}
use Rattle.awk_machine.specs.Builtins as builtin
use Rattle.awk_machine.specs.Forms.{deliver, value}
use Rattle.awk_machine.specs.Operators.{compared}
use Rattle.awk_machine.specs.Pieces.{At, Value_of, give}
use Rattle.awk_machine.specs.State.{Course, Given}
use Rattle.awk_machine.specs.Streams.{seen}
use Rattle.awk_machine.specs.Variables as variables
use Rattle.awk_store.specs.Acts.{Passes}
use Rattle.awk_store.specs.Kept.{Kept, by_convfmt, own_text}
use Rattle.awk_store.specs.States.{Hidden}
use Rattle.awk_store.specs.Wholes.{Agreeing, Whole, base}
use Rattle.awk_store.proofs.Acting.{at_rest, moves}
use Rattle.awk_store.proofs.Agreeing.{own-text-so}
use Rattle.awk_store.proofs.Convfmt.{convfmt-so, usual_stays}
use Rattle.awk_builtins.specs.Shown as spec
use Rattle.awk_builtins.proofs.AtHand.{on}
use Rattle.awk_builtins.proofs.PrintSteps.{then_same}

-- ---- comparisons

-- what is no number with a fraction is compared as it is
pub plain_beside : (kept : Kept) (o : Option Number) (x : Value) → by_convfmt kept x ≡ Ok x
    → spec.beside kept o x ≡ Ok x
plain_beside kept (Some n) x e = refl
plain_beside kept None x e = e

pub both_as_they_are : (kept : Kept) (how : Comparison) (x y : Value)
    → spec.beside kept (numeric kept.numbers y) x ≡ Ok x → spec.beside kept (numeric kept.numbers x) y ≡ Ok y
    → spec.compared_by kept how x y ≡ Ok (compared kept.numbers how x y)
both_as_they_are kept how x y e d = rw (e, d) refl

pub number_compared : (kept : Kept) (how : Comparison) (n : ℤ) (y : Value)
    → spec.compared_by kept how (v.Num n) y ≡ Ok (compared kept.numbers how (v.Num n) y)
number_compared kept how n y = both_as_they_are kept how (v.Num n) y
    (plain_beside kept (numeric kept.numbers y) (v.Num n) refl) refl

pub usual_compared : (kept : Kept) (how : Comparison) (x y : Value)
    → is_usual kept.numbers (own_text kept own.Convfmt) ≡ true
    → spec.compared_by kept how x y ≡ Ok (compared kept.numbers how x y)
usual_compared kept how x y e = both_as_they_are kept how x y
    (plain_beside kept (numeric kept.numbers y) x (usual_stays kept x e))
    (plain_beside kept (numeric kept.numbers x) y (usual_stays kept y e))

abbrev pub value_ok : Value → Result Value Fault
value_ok x = Ok x

same_value : (x y : Value) → value_ok x ≡ value_ok y → x ≡ y
same_value x y e = cc

-- the left value is looked at first: what it is compared as tells of the right one what it told
pub later_beside : (kept : Kept) (x y made : Value) → spec.beside kept (numeric kept.numbers y) x ≡ Ok made
    → spec.beside kept (numeric kept.numbers made) y ≡ spec.beside kept (numeric kept.numbers x) y
later_beside kept x y made e = by_left x e
  where
    stays : (x : Value) → by_convfmt kept x ≡ Ok x → spec.beside kept (numeric kept.numbers y) x ≡ Ok made
        → spec.beside kept (numeric kept.numbers made) y ≡ spec.beside kept (numeric kept.numbers x) y
    stays x plain e = ap (λ z. spec.beside kept (numeric kept.numbers z) y)
        (same_value made x (sym e ∙ plain_beside kept (numeric kept.numbers y) x plain))

    by_right : (x : Float) (y : Value) → spec.beside kept (numeric kept.numbers y) (v.Real x) ≡ Ok made
        → spec.beside kept (numeric kept.numbers made) y ≡ Ok y
    by_right x v.Unset e = plain_beside kept (numeric kept.numbers made) v.Unset refl
    by_right x (v.Num n) e = plain_beside kept (numeric kept.numbers made) (v.Num n) refl
    by_right x (v.Real z) e = ap (λ u. spec.beside kept (numeric kept.numbers u) (v.Real z))
        (same_value made (v.Real x) (sym e))
    by_right x (v.Text t) e = plain_beside kept (numeric kept.numbers made) (v.Text t) refl
    by_right x (v.Input t) e = plain_beside kept (numeric kept.numbers made) (v.Input t) refl

    by_left : (x : Value) → spec.beside kept (numeric kept.numbers y) x ≡ Ok made
        → spec.beside kept (numeric kept.numbers made) y ≡ spec.beside kept (numeric kept.numbers x) y
    by_left v.Unset e = stays v.Unset refl e
    by_left (v.Num n) e = stays (v.Num n) refl e
    by_left (v.Real x) e = by_right x y e
    by_left (v.Text t) e = stays (v.Text t) refl e
    by_left (v.Input t) e = stays (v.Input t) refl e

module _ (kept : Kept) (how : Comparison) (x y : Value) where
  pub compared_made : (a b : Value) → spec.beside kept (numeric kept.numbers y) x ≡ Ok a
      → spec.beside kept (numeric kept.numbers a) y ≡ Ok b
      → spec.compared_by kept how x y ≡ Ok (compared kept.numbers how a b)
  compared_made a b e d = let f = sym (later_beside kept x y a e) ∙ d in rw (e, f) refl

  pub left_faults : (f : Fault) → (f ≡ fault.Memory) ⊎ (spec.beside kept (numeric kept.numbers y) x ≡ Err f)
      → (f ≡ fault.Memory) ⊎ (spec.compared_by kept how x y ≡ Err f)
  left_faults f (inl m) = inl m
  left_faults f (inr e) = inr (rw e refl)

  pub right_faults : (a : Value) (f : Fault) → spec.beside kept (numeric kept.numbers y) x ≡ Ok a
      → (f ≡ fault.Memory) ⊎ (spec.beside kept (numeric kept.numbers a) y ≡ Err f)
      → (f ≡ fault.Memory) ⊎ (spec.compared_by kept how x y ≡ Err f)
  right_faults a f e (inl m) = inl m
  right_faults a f e (inr d) = let g = sym (later_beside kept x y a e) ∙ d in inr (rw (e, g) refl)

-- ---- by the machine's state

module _ (g : Given) (w : Whole) (hid : Hidden) (c : Course) (a : Agreeing g w hid c) where
  beside-so : (o : Option Number) (x : Value) → variables.beside (seen (base g w hid) c) o x ≡ spec.beside w.0 o x
  beside-so (Some n) x = refl
  beside-so None x = convfmt-so g w hid c a x

  pub compared-so : (how : Comparison) (x y : Value)
      → variables.compared_by (seen (base g w hid) c) how x y ≡ spec.compared_by w.0 how x y
  compared-so how x y =
      ap (λ r. r >>= λ z. variables.beside (seen (base g w hid) c) (numeric w.0.numbers x) y
      >>= λ u. value_ok (compared w.0.numbers how z u)) (beside-so (numeric w.0.numbers y) x)
      ∙ then_same (spec.beside w.0 (numeric w.0.numbers y) x)
      (λ z. variables.beside (seen (base g w hid) c) (numeric w.0.numbers x) y
      >>= λ u. value_ok (compared w.0.numbers how z u))
      (λ z. spec.beside w.0 (numeric w.0.numbers x) y >>= λ u. value_ok (compared w.0.numbers how z u))
      (λ z. ap (λ r. r >>= λ u. value_ok (compared w.0.numbers how z u)) (beside-so (numeric w.0.numbers x) y))

  pub formatted-so : (vs : List Value) → builtin.formatted_by (seen (base g w hid) c) vs ≡ spec.formatted_by w.0 vs
  formatted-so vs = ap (λ by. formatted_with w.0.numbers by (text_of (builtin.first vs)) (drop 1 vs))
      (own-text-so g w hid c a own.Convfmt)

pub usual_formatted : (kept : Kept) (vs : List Value) → is_usual kept.numbers (own_text kept own.Convfmt) ≡ true
    → formatted kept.numbers (text_of (builtin.first vs)) (drop 1 vs) ≡ spec.formatted_by kept vs
usual_formatted kept vs e = rw e refl

module _ (g : Given) (w : Whole) where
  pub as_text_there : (place : Place) (x : Expression) (val made : Value) → Passes g (value x) w (give val) w
      → by_convfmt w.0 val ≡ Ok made → Passes g (value (p.as_text place x)) w (give made) w
  as_text_there place x val made h is =
      moves (on (moves {then_ = λ k. value x ∷ At (Value_of (p.as_text place x)) [] ∷ k} (at_rest _ w)
      (λ k hid d a. refl)) h)
      (λ k hid d a. ap (λ r. held g (seen (base g w hid) d) (deliver place r k (seen (base g w hid) d)))
      (convfmt-so g w hid d a val ∙ is))
