-- Expressions whose value is there: to evaluate them changes nothing and meets no fault; and assignments that are done
-- at once.
use Rattle.std.specs.Prelude.{◌≡◌, ◌<◌, ◌≤◌, ℕ, ℤ, Bool, false, true, Ok, Some, List, [], ◌∷◌, Option, length, map}
use Rattle.awk_numbers.specs.declared.number.Number.{Number}
use Rattle.awk_numbers.specs.declared.number.Number.TheVariants as number
use Rattle.awk_fields.specs.Rows.{joined}
use Rattle.awk_text.specs.Limits.{most_bytes}
use Rattle.awk_text.specs.Values.{number_of, numeric, text_of, truth}
use Rattle.awk_text.specs.declared.value.Value.{Value}
use Rattle.awk_text.specs.declared.place.Place.{Place}
use Rattle.awk_text.specs.declared.value.Value.TheVariants as v
use Rattle.awk_program.specs.Program as p
use Rattle.awk_program.specs.Program.{Expression, expressions_of, joins_of}
use Rattle.awk_program.specs.declared.builtins.Builtin.{Builtin}
use Rattle.awk_program.specs.declared.builtins.Builtin.TheVariants as b
use Rattle.awk_program.specs.declared.operators.Operator.{Operator}
use Rattle.awk_program.specs.declared.variables.Own.TheVariants as own
use Rattle.awk_program.specs.declared.variables.Variable.{Variable}
use Rattle.awk_program.specs.View.{Names, variable_of, view, view_joined}
use Rattle.awk_program.specs.declared.expressions.Expr.{Expr}
use Rattle.awk_program.specs.declared.expressions.Joined.{Joined}
use Rattle.awk_program.specs.declared.expressions.Target.{Target}
use Rattle.awk_program.specs.declared.expressions.Target.TheVariants as target
use Rattle.awk_machine.specs.Forms.{spot, value}
use Rattle.awk_machine.specs.Operators.{limited}
use Rattle.awk_machine.specs.Pieces.{give}
use Rattle.awk_machine.specs.State.{Given}
use Rattle.awk_store.specs.Changes.{Adds, with_array}
use Rattle.awk_store.specs.Kept.{Kept, array, own_text, reference}
use Rattle.awk_streams.specs.Tables.{Table}
use Rattle.awk_store.specs.Acts.{Passes}
use Rattle.awk_store.specs.Wholes.{names_in}
use Rattle.awk_builtins.specs.Lines.{held}

module _ (x : Names → Expression) where
  -- whatever else a run holds beside the store
  abbrev pub Gives : Value → Kept → Kept → Type 0
  Gives val old new = (g : Given) (t : Table) → Passes g (value (x (names_in g))) (old, t) (give val) (new, t)

  module _ (kept : Kept) where
    abbrev pub IsThere : Value → Type 0
    IsThere val = Gives val kept kept

    -- a value with this number is there, by the store's profile
    pub record HasNumber (n : ℤ) : Type 0 where
      pub val : Value
      pub is : number_of kept.numbers val ≡ Ok (number.Whole n)
      pub there : IsThere val

    -- a value is there that is this number, and is compared and tested as it
    pub record CountsAs (n : ℤ) : Type 0 where
      pub val : Value
      pub is : number_of kept.numbers val ≡ Ok (number.Whole n)
      pub looks : numeric kept.numbers val ≡ Some (number.Whole n)
      pub there : IsThere val

    -- a value with this truth is there
    pub record HasTruth (b : Bool) : Type 0 where
      pub val : Value
      pub is : truth kept.numbers val ≡ b
      pub there : IsThere val

  -- the whole is done
  pub record IsDone (old new : Kept) : Type 0 where
    pub val : Value
    pub gives : Gives val old new

-- the function that gives a text in upper case, or in lower case
abbrev pub case_of : Bool → Builtin
case_of false = b.Tolower
case_of true = b.Toupper

-- the values of a list of expressions are there
abbrev pub AreThere : Kept → List Expr → List Value → Type 0
AreThere kept [] [] = Unit {0}
AreThere kept [] (val ∷ vals) = ⊥
AreThere kept (x ∷ xs) [] = ⊥
AreThere kept (x ∷ xs) (val ∷ vals) = IsThere (λ names. view names x) kept val × AreThere kept xs vals

-- a line is the texts of a value and of those behind it, with a separator between
pub record HoldsJoined (kept : Kept) (xs : List Expr) (separator : List ℕ) (first : Value) (line : Option (List ℕ)) :
    Type 0 where
  pub vals : List Value
  pub there : AreThere kept xs vals
  pub line_is : line ≡ held (joined separator (first ∷ vals))

-- a line is the text of a value, which is that of operands one after the other, and is there where that text is within
-- the limit; of two operands and more it is a text
pub record HoldsOperands (kept : Kept) (first : Expr) (rest : List (Joined Expr)) (line : Option (List ℕ)) : Type 0
  where
    pub val : Value
    pub line_is : line ≡ held (text_of val)
    pub there : length (text_of val) ≤ most_bytes →
        IsThere (λ names. p.concat (view names first) (joins_of (map (view_joined names) rest))) kept val
    pub is_text : 0 < length rest → val ≡ v.Text (text_of val)

-- subscripts are there, and their texts with SUBSEP between are this key
pub record MakesKey (keys : List Expr) (kept : Kept) (key : List ℕ) : Type 0 where
  pub vals : List Value
  pub there : AreThere kept keys vals
  pub is : limited (joined (own_text kept own.Subsep) vals) ≡ Ok key

-- subscripts are this key, of whichever array
abbrev pub IsKey : List Expr → Kept → List ℕ → Type 0
IsKey keys kept key = (g : Given) (t : Table) (place : Place) (of_ : p.Variable) →
    Passes g (spot (p.element place of_ (expressions_of (map (view (names_in g)) keys)))) (kept, t) (give (v.Text key))
    (kept, t)

-- what is read or set is the element of this array with this key, which is there
pub record IsAtKey (what : Target Expr) (kept : Kept) (at_name : Place) (of_ : Variable) (key : List ℕ) : Type 0 where
  pub keys : List Expr
  pub is : what ≡ target.Element at_name of_ keys
  pub key_is : IsKey keys kept key

-- the element with these subscripts holds a number, and is given the sum of that and another one
pub record AddsAt (of_ : Variable) (keys : List Expr) (by_ : ℤ) (old new : Kept) : Type 0 where
  pub key : List ℕ
  pub is : IsKey keys old key
  pub adds :
      Adds old.numbers (Some (array old of_)) key by_ (λ elements. new ≡ with_array (reference old of_) elements old)

-- the element with these subscripts is given what an operator makes of the number that it holds and of another one, which
-- is that of any value that is there
abbrev pub ChangesAt : Operator → Variable → List Expr → Number → Kept → Kept → Type 0
ChangesAt how of_ keys operand old new = (x : Names → Expression) (val : Value) → IsThere x old val
    → number_of old.numbers val ≡ Ok operand → (place at_name : Place)
    → IsDone (λ names. p.change place how
    (p.element at_name (variable_of names of_) (expressions_of (map (view names) keys))) (x names)) old new
