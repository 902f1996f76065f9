-- What the parameters of a call hold, and the function that is called.
use Rattle.std.proofs.Common.{◌≡◌, refl, sym, ap, ◌∙◌, ℕ, zero, suc, ◌+◌, ◌<◌, ◌≤◌, List, [], ◌∷◌, ◌++◌, length, map}
use Rattle.std.proofs.Common.{reverse, arith}
use Rattle.std.specs.Prelude.{Option, Some, None, IfSome, slice_get, slice_set, get_or, option_map, take, unwrap_or}
use Rattle.std.proofs.lemmas.List.{length-append, map-set, reverse-append}
use Rattle.std.proofs.lemmas.Option.{slice_get-map, slice_get_read, unwrap_or-slice_get}
use Rattle.awk_text.specs.declared.value.Value.{Value}
use Rattle.awk_text.specs.declared.value.Value.TheVariants as v
use Rattle.awk_program.specs.Program as p
use Rattle.awk_program.specs.View.{Names, view_arguments, view_function, view_program, names_of, variable_of}
use Rattle.awk_program.specs.declared.expressions.Argument as code
use Rattle.awk_program.specs.declared.expressions.Argument.TheVariants as argument
use Rattle.awk_program.specs.declared.expressions.Expr.{Expr}
use Rattle.awk_program.specs.declared.program.Function as code_function
use Rattle.awk_program.specs.declared.program.Program as code_program
use Rattle.awk_program.specs.declared.variables.Variable.{Variable}
use Rattle.awk_program.specs.declared.variables.Variable.TheVariants.{Global, Parameter}
use Rattle.awk_machine.specs.Calls.{all_handed, arguments, function, handed}
use Rattle.awk_machine.specs.State as machine
use Rattle.awk_machine.specs.State.{State, Frame}
use Rattle.awk_machine.specs.Variables as variables
use Rattle.awk_store.specs.Kept as kept
use Rattle.awk_store.specs.Kept.{Kept, as_scalar}
use Rattle.awk_store.specs.States.{Hidden, bound_of, reference_of, state}
use Rattle.awk_store.specs.declared.frame.Bound.{Bound}
use Rattle.awk_store.specs.declared.frame.Bound.TheVariants as bound
use Rattle.awk_store.proofs.Reading.{handed_read}
use Rattle.awk_store.specs.Calls.{argument_of, array_of}

-- ---- lists

-- a list without its last, from behind
pub reverse_last : {X : Type 0} (xs : List X) (x : X) → x ∷ reverse xs ≡ reverse (xs ++ x ∷ [])
reverse_last xs x = sym (reverse-append xs (x ∷ []))

pub one_longer : {X : Type 0} (xs ys : List X) (x : X) (n : ℕ) → ys ≡ xs ++ x ∷ [] → length xs ≡ n → length ys ≡ n + 1
one_longer xs ys x n e is = let a = ap length e ∙ length-append xs (x ∷ []) in omega (arith, a, is)

-- what stands at a place, where the place is said in other words
pub is_there : {X : Type 0} (xs : List X) (i n : ℕ) (x : X) → i < length xs → x ≡ get_or xs i x → i ≡ n
    → slice_get xs n ≡ Some x
is_there xs i n x within is e = ap (slice_get xs) (sym e) ∙ slice_get_read xs (length xs) i x refl within is

-- ---- arguments

pub arguments-so : (names : Names) (xs : List (code.Argument Expr)) → arguments (view_arguments names xs)
    ≡ map (argument_of names) xs
arguments-so names [] = refl
arguments-so names (argument.Value x ∷ xs) = ap (λ ys. argument_of names (argument.Value x) ∷ ys)
    (arguments-so names xs)
arguments-so names (argument.Array a ∷ xs) = ap (λ ys. argument_of names (argument.Array a) ∷ ys)
    (arguments-so names xs)
arguments-so names (argument.Nothing ∷ xs) = ap (λ ys. argument_of names argument.Nothing ∷ ys) (arguments-so names xs)

-- which array a variable stands for
pub reference_so : (names : Names) (k : Kept) (hid : Hidden) (a : Variable)
    → variables.reference (state names k hid) (variable_of names a) ≡ reference_of names (kept.reference k a)
reference_so names k hid (Global n) = refl
reference_so names k hid (Parameter n) = ap variables.bound_reference (slice_get-map (bound_of names) k.frame n)
    ∙ handed_read names (slice_get k.frame n)

-- ---- what parameters hold, one after the other

-- values that parameters hold
abbrev pub scalars : Names → List Value → Frame
scalars names vs = map (bound_of names) (map as_scalar vs)

module _ (names : Names) (s : State) where
  -- the first so many arguments are handed, and the others are values still
  abbrev pub half : ℕ → List (code.Argument Expr) → List Value → Frame
  half n [] vs = scalars names vs
  half n (x ∷ xs) [] = []
  half zero (x ∷ xs) (v ∷ vs) = scalars names (v ∷ vs)
  half (suc n) (x ∷ xs) (v ∷ vs) = handed s (argument_of names x) v ∷ half n xs vs

  pub half_none : (xs : List (code.Argument Expr)) (vs : List Value) → half 0 xs vs ≡ scalars names vs
  half_none [] vs = refl
  half_none (x ∷ xs) [] = refl
  half_none (x ∷ xs) (v ∷ vs) = refl

  pub half_all : (xs : List (code.Argument Expr)) (vs : List Value) → length vs ≤ length xs
      → half (length xs) xs vs ≡ all_handed s (map (argument_of names) xs) vs
  half_all [] [] few = refl
  half_all [] (v ∷ vs) few = absurd (omega (arith, few))
  half_all (x ∷ xs) [] few = refl
  half_all (x ∷ xs) (v ∷ vs) few = ap (λ bs. handed s (argument_of names x) v ∷ bs)
      (half_all xs vs (omega (arith, few)))

  -- what is no array stays as it lies
  half_same : (n : ℕ) (xs : List (code.Argument Expr)) (vs : List Value) (x : code.Argument Expr)
      → slice_get xs n ≡ Some x → ((v : Value) → handed s (argument_of names x) v ≡ bound_of names (as_scalar v)) →
      half n xs vs ≡ half (suc n) xs vs
  half_same n [] vs x e same = refl
  half_same zero (y ∷ ys) [] x e same = refl
  half_same (suc n) (y ∷ ys) [] x e same = refl
  half_same zero (y ∷ ys) (v ∷ vs) x e same =
      ap (λ bs. bound_of names (as_scalar v) ∷ bs) (sym (half_none ys vs)) ∙ ap (λ b. b ∷ half 0 ys vs)
      (sym (ap (λ z. handed s (argument_of names z) v) (ap (λ o. unwrap_or o y) e) ∙ same v))
  half_same (suc n) (y ∷ ys) (v ∷ vs) x e same = ap (λ bs. handed s (argument_of names y) v ∷ bs)
      (half_same n ys vs x e same)

  -- an array is put in the place of what lies there
  half_put : (n : ℕ) (xs : List (code.Argument Expr)) (vs : List Value) (a : Variable)
      → slice_get xs n ≡ Some (argument.Array a)
      → slice_set (half n xs vs) n (handed s (argument_of names (argument.Array a)) v.Unset) ≡ half (suc n) xs vs
  half_put zero [] vs a e = absurd (cc)
  half_put (suc n) [] vs a e = absurd (cc)
  half_put zero (y ∷ ys) [] a e = refl
  half_put (suc n) (y ∷ ys) [] a e = refl
  half_put zero (y ∷ ys) (v ∷ vs) a e =
      ap (λ bs. handed s (argument_of names (argument.Array a)) v ∷ bs) (sym (half_none ys vs))
      ∙ ap (λ z. handed s (argument_of names z) v ∷ half 0 ys vs) (sym (ap (λ o. unwrap_or o y) e))
  half_put (suc n) (y ∷ ys) (v ∷ vs) a e = ap (λ bs. handed s (argument_of names y) v ∷ bs) (half_put n ys vs a e)

  -- the values behind the last argument go
  pub handed_taken : (xs : List (code.Argument Expr)) (vs : List Value)
      → all_handed s (map (argument_of names) xs) (take (length xs) vs) ≡ all_handed s (map (argument_of names) xs) vs
  handed_taken [] vs = refl
  handed_taken (x ∷ xs) [] = refl
  handed_taken (x ∷ xs) (v ∷ vs) = ap (λ bs. handed s (argument_of names x) v ∷ bs) (handed_taken xs vs)

-- one argument more is handed
pub half_more : (names : Names) (k : Kept) (hid : Hidden) (n : ℕ) (xs : List (code.Argument Expr)) (vs : List Value)
    (x : code.Argument Expr) (bs new : List Bound) → slice_get xs n ≡ Some x →
    IfSome (array_of x) (λ a. new ≡ slice_set bs n (bound.Handed (kept.reference k a)))
    → (array_of x ≡ None → new ≡ bs) →
    map (bound_of names) bs ≡ half names (state names k hid) n xs vs
    → map (bound_of names) new ≡ half names (state names k hid) (suc n) xs vs
half_more names k hid n xs vs (argument.Value x) bs new e at others h = ap (map (bound_of names)) (others refl) ∙ h
    ∙ half_same names (state names k hid) n xs vs (argument.Value x) e (λ v. refl)
half_more names k hid n xs vs argument.Nothing bs new e at others h = ap (map (bound_of names)) (others refl) ∙ h
    ∙ half_same names (state names k hid) n xs vs argument.Nothing e (λ v. refl)
half_more names k hid n xs vs (argument.Array a) bs new e at others h =
    ap (map (bound_of names)) at ∙ map-set (bound_of names) bs n (bound.Handed (kept.reference k a))
    ∙ ap (λ r. slice_set (map (bound_of names) bs) n (machine.Handed r)) (sym (reference_so names k hid a))
    ∙ ap (λ l. slice_set l n (machine.Handed (variables.reference (state names k hid) (variable_of names a)))) h
    ∙ half_put names (state names k hid) n xs vs a e

-- ---- the function that is called

abbrev no_function : p.Function
no_function = record { name = []; parameters = []; body = [] }

function_by : (x : code_program.Program) (n : ℕ) (found : Option code_function.Function)
    → slice_get x.functions n ≡ found → function (view_program x) n
    ≡ unwrap_or (option_map (view_function (names_of x)) found) no_function
function_by x n found e =
    sym (unwrap_or-slice_get (map (view_function (names_of x)) x.functions) n no_function)
    ∙ ap (λ o. unwrap_or o no_function) (slice_get-map (view_function (names_of x)) x.functions n
    ∙ ap (option_map (view_function (names_of x))) e)

pub function_none : (x : code_program.Program) (n : ℕ) → slice_get x.functions n ≡ None → function (view_program x) n
    ≡ no_function
function_none x n e = function_by x n None e
