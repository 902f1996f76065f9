-- How split fills its array.
use Rattle.std.proofs.Common.{◌≡◌, ◌⊎◌, inl, inr, refl, sym, ap, subst, ◌∙◌, ℤ, Bool, true, false, List, ◌∷◌, length}
use Rattle.std.specs.Prelude.{Result, Ok, Err, pos, nat_le, OnOk, IfOk, IfErr}
use Rattle.awk_fields.specs.Fields as fields
use Rattle.awk_fields.specs.Separators.{Separator}
use Rattle.awk_lib.specs.Arrays.{most_elements}
use Rattle.awk_text.specs.declared.fault.Fault.{Fault}
use Rattle.awk_text.specs.declared.fault.Fault.TheVariants as fault
use Rattle.awk_text.specs.declared.place.Place.{Place}
use Rattle.awk_text.specs.declared.value.Value.TheVariants as v
use Rattle.awk_program.specs.Slots.{Text}
use Rattle.awk_program.specs.View.{variable_of}
use Rattle.awk_program.specs.declared.variables.Variable.{Variable}
use Rattle.awk_machine.specs.Advances.{advance}
use Rattle.awk_lib.specs.Parts.{texts_from}
use Rattle.awk_machine.specs.Operators.{of_count}
use Rattle.awk_machine.specs.Pieces.{Piece, Do, Fill, Split, Goes, give, ends, Faulted}
use Rattle.awk_machine.specs.Questions.{Divides, Texts, texts}
use Rattle.awk_machine.specs.State.{Array, Course, Given}
use Rattle.awk_machine.specs.Streams.{seen}
use Rattle.awk_store.specs.Changes as changes
use Rattle.awk_store.specs.Kept as kept
use Rattle.awk_store.specs.Kept.{Kept}
use Rattle.awk_store.specs.States.{Hidden}
use Rattle.awk_store.proofs.Cells.{as_it_was}
use Rattle.awk_store.specs.Filled.{filled}
use Rattle.awk_store.specs.Wholes.{Whole, Agreeing, base, names_in}
use Rattle.awk_streams.specs.Chains.{halt_at, result_at}
use Rattle.awk_store.specs.Acts.{Acts, Passes}
use Rattle.awk_store.proofs.Acting.{at_rest, moves, alters, finds, reworded, done, faulted}
use Rattle.awk_store.proofs.ArraySteps.{with_new, array-set, array_agrees, array_used}

-- ---- what fits, and what does not

few_by : (b : Bool) (parts : List Text) (a : Array) → nat_le (length parts) most_elements ≡ b → filled parts ≡ Ok a
    → (nat_le (length parts) most_elements ≡ true) × (a ≡ texts_from 1 parts)
few_by true parts a e is = (e, let x = rw e at is in cc)
few_by false parts a e is = absurd (let x = rw e at is in cc)

many_by : (b : Bool) (parts : List Text) (met : Fault) → nat_le (length parts) most_elements ≡ b
    → filled parts ≡ Err met → (nat_le (length parts) most_elements ≡ false) × (met ≡ fault.TooManyElements)
many_by true parts met e is = absurd (let x = rw e at is in cc)
many_by false parts met e is = (e, let x = rw e at is in cc)

module _ (g : Given) (old : Whole) (x : Variable) (at : Place) (parts : List Text) where
  abbrev filling : Piece
  filling = Do (Fill at (variable_of (names_in g) x) parts)

  fill_moves : nat_le (length parts) most_elements ≡ true → (k : List Piece) (hid : Hidden) (c : Course)
      → Agreeing g old hid c →
      advance g (Do (Fill at (variable_of (names_in g) x) parts) ∷ k) (seen (base g old hid) c)
      ≡ Goes (give (of_count (length parts)) k) (seen (base g (with_new g old x (texts_from 1 parts)) hid) c)
  fill_moves few k hid c a = rw (few, array-set g old x (texts_from 1 parts) hid c a) refl

  fill_faults : nat_le (length parts) most_elements ≡ false → (k : List Piece) (hid : Hidden) (c : Course)
      → Agreeing g old hid c →
      advance g (Do (Fill at (variable_of (names_in g) x) parts) ∷ k) (seen (base g old hid) c)
      ≡ Goes (ends (Faulted fault.TooManyElements at)) (seen (base g old hid) c)
  fill_faults many k hid c a = rw many refl

  pub fills : (n : ℤ) (new : Kept) (a : Array) → filled parts ≡ Ok a → n ≡ pos (length parts)
      → new ≡ changes.with_array (kept.reference old.0 x) a old.0 →
      Acts g (Do (Fill at (variable_of (names_in g) x) parts)) (λ n. give (v.Num n)) old (Ok n) (new, old.1)
  fills n new a is count same =
      let so = few_by (nat_le (length parts) most_elements) parts a refl is in
      rw (same, so.1, count)
      (done (alters (array_used g old x (texts_from 1 parts)) (at_rest _ old)
      (λ k hid c a. (hid, array_agrees g old x (texts_from 1 parts) hid c a, fill_moves so.0 k hid c a))))

  fails : (new : Kept) (a : Array) (met : Fault) → new ≡ changes.with_array (kept.reference old.0 x) a old.0
      → (met ≡ fault.Memory) ⊎ ((filled parts ≡ Err met) × (a ≡ kept.array old.0 x)) →
      Acts g (Do (Fill at (variable_of (names_in g) x) parts)) (λ (n : ℤ). give (v.Num n)) old (Err (halt_at at met))
      (new, old.1)
  fails new a met same (inl m) = faulted (ap (λ (k : Kept). k.used) same ∙ array_used g old x a) (inl m)
  fails new a met same (inr (is, as_was)) =
      let so = many_by (nat_le (length parts) most_elements) parts met refl is in
      subst (λ (k : Kept). Acts g filling (λ (n : ℤ). give (v.Num n)) old (Err (halt_at at met)) (k, old.1))
      (sym (as_it_was old.0 new (kept.reference old.0 x) a same as_was))
      (faulted refl (inr (reworded {to = λ k. ends (Faulted fault.TooManyElements at)}
      (moves (at_rest _ old) (fill_faults so.0)) (λ k. ap (λ y. ends (Faulted y at)) (sym so.1)))))

  pub fills_result : (r : Result ℤ Fault) (new : Kept) (a : Array)
      → new ≡ changes.with_array (kept.reference old.0 x) a old.0 → OnOk r (filled parts ≡ Ok a)
      → IfOk r (λ n. n ≡ pos (length parts)) →
      IfErr r (λ e. (e ≡ fault.Memory) ⊎ ((filled parts ≡ Err e) × (a ≡ kept.array old.0 x)))
      → Acts g (Do (Fill at (variable_of (names_in g) x) parts)) (λ n. give (v.Num n)) old (result_at at r) (
        new,
        old.1,
      )
  fills_result (Ok n) new a same ok count err = fills n new a ok count same
  fills_result (Err met) new a same ok count err = fails new a met same err

-- ---- the parts, and then the array

pub split_first : (g : Given) (old : Whole) (x : Variable) (at : Place) (by : Separator) (text : Text)
    (parts : List Text) → fields.Fields by text parts →
    Passes g (Do (Split at (variable_of (names_in g) x) by text)) old
    (λ k. Do (Fill at (variable_of (names_in g) x) parts) ∷ k) old
split_first g old x at by text parts are =
    finds {then_ = λ k a. Do (Fill at (variable_of (names_in g) x) (texts a)) ∷ k} (λ hid. Divides by text)
    (Texts parts) (at_rest _ old) (λ k hid c a. (refl, are))
