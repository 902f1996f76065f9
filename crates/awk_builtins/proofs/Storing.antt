-- Assignments whose parts are at hand: the target and the value are there, and the new value is stored.
use Rattle.std.proofs.Common.{◌≡◌, refl, ℤ, false, [], ◌∷◌}
use Rattle.std.specs.Prelude.{Some, Ok}
use Rattle.awk_numbers.specs.declared.number.Number.{Number}
use Rattle.awk_numbers.specs.declared.number.Number.TheVariants as number
use Rattle.awk_numbers.specs.declared.number.Numbers.{Numbers}
use Rattle.awk_text.specs.Values.{number_of, of_number}
use Rattle.awk_text.specs.declared.place.Place.{Place}
use Rattle.awk_text.specs.declared.value.Value.{Value}
use Rattle.awk_text.specs.declared.value.Value.TheVariants as v
use Rattle.awk_lib.specs.Arrays.{element, put}
use Rattle.awk_program.specs.Program as p
use Rattle.awk_program.specs.Program.{Expression}
use Rattle.awk_program.specs.Slots.{Text}
use Rattle.awk_program.specs.View.{variable_of}
use Rattle.awk_program.specs.declared.operators.Operator.{Operator}
use Rattle.awk_program.specs.declared.operators.Step.{Step}
use Rattle.awk_program.specs.declared.operators.StepValue.{StepValue}
use Rattle.awk_program.specs.declared.variables.Variable.{Variable}
use Rattle.awk_machine.specs.Expressions.{either}
use Rattle.awk_machine.specs.Forms.{value, spot}
use Rattle.awk_machine.specs.Operators.{operation, stepped}
use Rattle.awk_machine.specs.Pieces as machine
use Rattle.awk_machine.specs.Pieces.{Piece, Part, At, Do, Get, Set, Give, Value_of, give}
use Rattle.awk_machine.specs.State.{Array, Given}
use Rattle.awk_machine.specs.Targets.{target}
use Rattle.awk_streams.specs.Tasks.{goes_on}
use Rattle.awk_store.specs.Changes.{with_array, with_value}
use Rattle.awk_store.specs.Kept as kept
use Rattle.awk_store.specs.Kept.{Kept}
use Rattle.awk_store.specs.Acts.{Acts, Passes}
use Rattle.awk_store.specs.Wholes.{Whole, names_in}
use Rattle.awk_store.proofs.Acting.{at_rest, moves, doing}
use Rattle.awk_store.proofs.ArraySteps.{reads_element, puts_result}
use Rattle.awk_store.proofs.Agreeing.{nf-so}
use Rattle.awk_store.proofs.VariableSteps.{reads_variable, sets_variable}
use Rattle.awk_builtins.proofs.AtHand.{on, variable_spot}

-- what is set, wherever it is, and what its setting leaves
module _ (g : Given) (old new : Whole) (place : Place) (r : p.Reference) (at : Value)
    (there : Passes g (spot r) old (give at) old) where
  -- the value is stored, and given
  stores : {from : Piece} (val : Value) → Passes g from old (λ k. Do (Set (target r at) place val) ∷ Do (Give val) ∷ k)
      old → Acts g (Do (Set (target r at) place val)) goes_on old (Ok (tt {0})) new → Passes g from old (give val) new
  stores val h set = moves (doing (tt {0}) h set refl) (λ k hid d a. refl)

  -- the moves that lead to it
  module _ (x : Expression) where
    assign_value : {val : Value} → Passes g (value x) old (give val) old
        → Passes g (value (p.assign place r x)) old (λ k. At (Value_of (p.assign place r x)) (val ∷ at ∷ []) ∷ k) old
    assign_value h =
        let part : Part = Value_of (p.assign place r x) in
        on (moves {then_ = λ k. value x ∷ At part (at ∷ []) ∷ k}
        (on (moves {then_ = λ k. spot r ∷ At part [] ∷ k} (at_rest _ old) (λ k hid d a. refl)) there)
        (λ k hid d a. refl)) h

    change_values : {val was : Value} (how : Operator) → Passes g (value x) old (give val) old
        → Acts g (Do (Get (target r at))) give old (Ok was) old →
        Passes g (value (p.change place how r x)) old (λ k. At (Value_of (p.change place how r x)) (was ∷ val ∷ at ∷ [])
        ∷ k) old
    change_values {val} {was} how h get =
        let part : Part = Value_of (p.change place how r x) in
        doing was (moves {then_ = λ k. Do (Get (target r at)) ∷ At part (val ∷ at ∷ []) ∷ k}
        (on (moves {then_ = λ k. value x ∷ At part (at ∷ []) ∷ k}
        (on (moves {then_ = λ k. spot r ∷ At part [] ∷ k} (at_rest _ old) (λ k hid d a. refl)) there)
        (λ k hid d a. refl)) h) (λ k hid d a. refl)) get refl

  step_value : {was : Value} (how : Step) (taken : StepValue) → Acts g (Do (Get (target r at))) give old (Ok was) old →
      Passes g (value (p.step place how taken r)) old (λ k. At (Value_of (p.step place how taken r)) (was ∷ at ∷ []) ∷
      k) old
  step_value {was} how taken get =
      let part : Part = Value_of (p.step place how taken r) in
      doing was (moves {then_ = λ k. Do (Get (target r at)) ∷ At part (at ∷ []) ∷ k}
      (on (moves {then_ = λ k. spot r ∷ At part [] ∷ k} (at_rest _ old) (λ k hid d a. refl)) there)
      (λ k hid d a. refl)) get refl

-- the number of the value that a number is
pub number_back : (numbers : Numbers) (n : Number) → number_of numbers (of_number n) ≡ Ok n
number_back numbers (number.Whole n) = refl
number_back numbers (number.Real x) = refl

-- a variable that is not NF
module _ (g : Given) (w : Whole) (new : Kept) (place : Place) (x : Variable) (n : kept.is_nf x ≡ false) where
  abbrev named : p.Reference
  named = p.variable (variable_of (names_in g) x)

  set_variable : (val : Value) → new ≡ with_value x val w.0
      → Acts g (Do (Set (machine.Variable (variable_of (names_in g) x)) place val)) goes_on w (Ok (tt {0})) (new, w.1)
  set_variable val same = sets_variable g w x place val new n same

  pub assigns_variable : (e : Expression) (val : Value) → Passes g (value e) w (give val) w → new ≡ with_value x val w.0
      → Passes g (value (p.assign place named e)) w (give val) (new, w.1)
  assigns_variable e val h same =
      stores g w (new, w.1) place named v.Unset (variable_spot g w x) val
      (moves (assign_value g w (new, w.1) place named v.Unset (variable_spot g w x) e h)
      (λ k hid d a. rw (nf-so g w hid d a x, n) refl)) (set_variable val same)

  pub changes_variable : (how : Operator) (e : Expression) (val : Value) (a b c : Number)
      → Passes g (value e) w (give val) w → number_of w.0.numbers (kept.value w.0 x) ≡ Ok a
      → number_of w.0.numbers val ≡ Ok b → operation w.0.numbers how a b ≡ Ok c →
      new ≡ with_value x (of_number c) w.0
      → Passes g (value (p.change place how named e)) w (give (of_number c)) (new, w.1)
  changes_variable how e val a b c h first second made same =
      stores g w (new, w.1) place named v.Unset (variable_spot g w x) (of_number c)
      (moves (change_values g w (new, w.1) place named v.Unset (variable_spot g w x) e how h (reads_variable g w x n))
      (λ k hid d ag. rw (first, second, made, nf-so g w hid d ag x, n) refl)) (set_variable (of_number c) same)

  pub steps_variable : (how : Step) (taken : StepValue) (a b : Number)
      → number_of w.0.numbers (kept.value w.0 x) ≡ Ok a → stepped w.0.numbers how a ≡ Ok b
      → new ≡ with_value x (of_number b) w.0 →
      Passes g (value (p.step place how taken named)) w (give (either taken a b)) (new, w.1)
  steps_variable how taken a b first made same =
      moves (doing (tt {0})
      (moves {then_ = λ k. Do (Set (machine.Variable (variable_of (names_in g) x)) place (of_number b)) ∷ Do
      (Give (either taken a b)) ∷ k}
      (step_value g w (new, w.1) place named v.Unset (variable_spot g w x) how taken (reads_variable g w x n))
      (λ k hid d ag. rw (first, made) refl)) (set_variable (of_number b) same) refl) (λ k hid d ag. refl)

-- an element
module _ (g : Given) (w : Whole) (new : Kept) (place at_name : Place) (x : Variable) (keys : p.Expressions) (key : Text)
    (there : Passes g (spot (p.element at_name (variable_of (names_in g) x) keys)) w (give (v.Text key)) w) where
  abbrev element_named : p.Reference
  element_named = p.element at_name (variable_of (names_in g) x) keys

  module _ (made : Array) (val : Value) (puts : put (kept.array w.0 x) key val ≡ Ok made)
      (same : new ≡ with_array (kept.reference w.0 x) made w.0) where
    set_element : Acts g (Do (Set (machine.Element (variable_of (names_in g) x) key at_name) place val)) goes_on w
        (Ok (tt {0})) (new, w.1)
    set_element = puts_result g w x key at_name place val (Ok (tt {0})) new (made, puts, same) tt

    pub assigns_element : (e : Expression) → Passes g (value e) w (give val) w
        → Passes g (value (p.assign place element_named e)) w (give val) (new, w.1)
    assigns_element e h =
        stores g w (new, w.1) place element_named (v.Text key) there val
        (moves (assign_value g w (new, w.1) place element_named (v.Text key) there e h) (λ k hid d a. refl))
        set_element

  module _ (made : Array) (a c : Number) (has : element (kept.array w.0 x) key ≡ Some (of_number a))
      (puts : put (kept.array w.0 x) key (of_number c) ≡ Ok made)
      (same : new ≡ with_array (kept.reference w.0 x) made w.0) where
    pub changes_element : (how : Operator) (e : Expression) (val : Value) (b : Number)
        → Passes g (value e) w (give val) w → number_of w.0.numbers val ≡ Ok b → operation w.0.numbers how a b ≡ Ok c
        → Passes g (value (p.change place how element_named e)) w (give (of_number c)) (new, w.1)
    changes_element how e val b h second is =
        stores g w (new, w.1) place element_named (v.Text key) there (of_number c)
        (moves (change_values g w (new, w.1) place element_named (v.Text key) there e how h
        (reads_element g w x key at_name (of_number a) has))
        (λ k hid d ag. rw (number_back w.0.numbers a, second, is) refl))
        (set_element made (of_number c) puts same)

  module _ (made : Array) (a c : ℤ) (has : element (kept.array w.0 x) key ≡ Some (v.Num a))
      (puts : put (kept.array w.0 x) key (v.Num c) ≡ Ok made) (same : new ≡ with_array (kept.reference w.0 x) made w.0)
    where
      pub steps_element : (how : Step) (taken : StepValue)
          → stepped w.0.numbers how (number.Whole a) ≡ Ok (number.Whole c)
          → Passes g (value (p.step place how taken element_named)) w
          (give (either taken (number.Whole a) (number.Whole c))) (new, w.1)
      steps_element how taken is =
          moves (doing (tt {0})
          (moves {then_ = λ k. Do (Set (machine.Element (variable_of (names_in g) x) key at_name) place (v.Num c)) ∷
          Do (Give (either taken (number.Whole a) (number.Whole c))) ∷ k}
          (step_value g w (new, w.1) place element_named (v.Text key) there how taken
          (reads_element g w x key at_name (v.Num a) has)) (λ k hid d ag. rw is refl))
          (set_element made (v.Num c) puts same) refl) (λ k hid d ag. refl)
