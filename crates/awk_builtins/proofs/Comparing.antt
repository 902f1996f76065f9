-- Comparisons whose operands are there.
use Rattle.std.proofs.Common.{◌≡◌, ◌⊎◌, inl, inr, ap, refl, ◌∙◌, ℤ, Bool, [], ◌∷◌}
use Rattle.std.specs.Prelude.{Some, Result, Ok, Err, IfOk, IfErr}
use Rattle.awk_numbers.specs.declared.number.Number.TheVariants as number
use Rattle.awk_numbers.specs.declared.number.Numbers.{Numbers}
use Rattle.awk_text.specs.Values.{numeric}
use Rattle.awk_text.specs.declared.fault.Fault.{Fault}
use Rattle.awk_text.specs.declared.fault.Fault.TheVariants as fault
use Rattle.awk_text.specs.declared.place.Place.{Place}
use Rattle.awk_text.specs.declared.value.Value.{Value}
use Rattle.awk_text.specs.declared.value.Value.TheVariants as v
use Rattle.awk_program.specs.Program as p
use Rattle.awk_program.specs.Program.{Expression}
use Rattle.awk_program.specs.declared.operators.Comparison.{Comparison}
use Rattle.awk_machine.specs.Advances.{held}
use Rattle.awk_machine.specs.Forms.{deliver, value}
use Rattle.awk_machine.specs.Operators.{compared, of_truth}
use Rattle.awk_machine.specs.Pieces.{At, Part, Value_of, give}
use Rattle.awk_machine.specs.State.{Given}
use Rattle.awk_machine.specs.Streams.{seen}
use Rattle.awk_streams.specs.Chains.{result_at}
use Rattle.awk_store.specs.Acts.{Acts, Passes}
use Rattle.awk_store.specs.Wholes.{Whole, base}
use Rattle.awk_store.proofs.Acting.{at_rest, done, faulted, moves}
use Rattle.awk_builtins.specs.Shown.{compared_by}
use Rattle.awk_builtins.proofs.AtHand.{on}
use Rattle.awk_builtins.proofs.Convfmt.{compared-so, number_compared}

-- what counts as a number is compared as one
alike : (numbers : Numbers) (how : Comparison) (a b : ℤ) (val : Value) → numeric numbers val ≡ Some (number.Whole b)
    → compared numbers how (v.Num a) val ≡ compared numbers how (v.Num a) (v.Num b)
alike numbers how a b val e = rw e refl

module _ (g : Given) (w : Whole) (place : Place) (how : Comparison) (x y : Expression) where
  pub comparison_there : (a b made : Value) → Passes g (value x) w (give a) w → Passes g (value y) w (give b) w
      → compared_by w.0 how a b ≡ Ok made → Passes g (value (p.compare place how x y)) w (give made) w
  comparison_there a b made h m is =
      let part : Part = Value_of (p.compare place how x y) in
      moves (on (moves {then_ = λ k. value y ∷ At part (a ∷ []) ∷ k}
      (on (moves {then_ = λ k. value x ∷ At part [] ∷ k} (at_rest _ w) (λ k hid d a. refl)) h) (λ k hid d a. refl))
      m) (λ k hid d agrees. ap (λ r. held g (seen (base g w hid) d) (deliver place r k (seen (base g w hid) d)))
      (compared-so g w hid d agrees how a b ∙ is))

  -- the values are there already
  pub compares : (a b : Value) (made : Result Bool Fault) → IfOk made (λ h. compared_by w.0 how a b ≡ Ok (of_truth h))
      → IfErr made (λ e. (e ≡ fault.Memory) ⊎ (compared_by w.0 how a b ≡ Err e))
      → Acts g (At (Value_of (p.compare place how x y)) (b ∷ a ∷ [])) (λ h. give (of_truth h)) w
      (result_at place made) w
  compares a b (Ok h) ok err = done (moves (at_rest _ w)
      (λ k hid d agrees. ap (λ r. held g (seen (base g w hid) d) (deliver place r k (seen (base g w hid) d)))
      (compared-so g w hid d agrees how a b ∙ ok)))
  compares a b (Err f) ok (inl m) = faulted refl (inl m)
  compares a b (Err f) ok (inr e) = faulted refl (inr (moves (at_rest _ w)
      (λ k hid d agrees. ap (λ r. held g (seen (base g w hid) d) (deliver place r k (seen (base g w hid) d)))
      (compared-so g w hid d agrees how a b ∙ e))))

  pub number_beside : (a : ℤ) (b : Value) → Passes g (value x) w (give (v.Num a)) w → Passes g (value y) w (give b) w
      → Passes g (value (p.compare place how x y)) w (give (compared w.0.numbers how (v.Num a) b)) w
  number_beside a b h m = comparison_there (v.Num a) b (compared w.0.numbers how (v.Num a) b) h m
      (number_compared w.0 how a b)

  pub numbers_compared : (a b : ℤ) (val : Value) → Passes g (value x) w (give (v.Num a)) w
      → Passes g (value y) w (give val) w → numeric w.0.numbers val ≡ Some (number.Whole b)
      → Passes g (value (p.compare place how x y)) w (give (compared w.0.numbers how (v.Num a) (v.Num b))) w
  numbers_compared a b val h m is = rw (alike w.0.numbers how a b val is) at (number_beside a val h m)
