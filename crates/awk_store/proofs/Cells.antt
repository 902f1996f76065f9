-- Cells and arrays that are changed where they lie.
use Rattle.std.specs.Prelude.{◌≡◌, ◌<◌, ◌≤◌, ℕ, zero, suc, List, [], ◌∷◌, length, slice_get, slice_index_or, slice_set}
use Rattle.std.specs.Prelude.{Some, None, unwrap_or, Result, Ok, Err, OnOk, IfErr, refl}
use Rattle.std.proofs.Common.{sym, ◌∙◌, ap, arith}
use Rattle.awk_text.specs.declared.value.Value.{Value}
use Rattle.awk_program.specs.declared.variables.Variable.{Variable}
use Rattle.awk_program.specs.declared.variables.Variable.TheVariants.{Global, Parameter}
use Rattle.awk_machine.specs.State.{Array}
use Rattle.awk_store.specs.declared.cell.Cell.{Cell}
use Rattle.awk_store.specs.declared.cell.Cell.TheVariants as cell
use Rattle.awk_store.specs.declared.frame.Bound.TheVariants.{Scalar}
use Rattle.awk_store.specs.declared.frame.Reference.{Reference}
use Rattle.awk_store.specs.declared.frame.Reference.TheVariants.{Shared, Made, Nothing}
use Rattle.awk_store.specs.Changes.{change_at, given_array, given_value, with_array, with_value}
use Rattle.awk_store.specs.Kept.{Kept, array_at, listed}

pub change_here : (f : Cell → Cell) (cells : List Cell) (k : ℕ) (c new : Cell) → c ≡ slice_index_or cells k c
    → new ≡ f c → slice_set cells k new ≡ change_at f cells k
change_here f [] k c new is e = refl
change_here f (x ∷ cs) zero c new is e = rw (e, is) refl
change_here f (x ∷ cs) (suc k) c new is e = ap (λ ys. x ∷ ys) (change_here f cs k c new is e)

pub change_nowhere : (f : Cell → Cell) (cells : List Cell) (k : ℕ) → length cells ≤ k → cells ≡ change_at f cells k
change_nowhere f [] k past = refl
change_nowhere f (x ∷ cs) zero past = absurd (omega (arith, past))
change_nowhere f (x ∷ cs) (suc k) past = ap (λ ys. x ∷ ys) (change_nowhere f cs k (omega (arith, past)))

-- what was there, in a proof that knows it by its own value
pub found_here : {X : Type 0} (xs : List X) (k : ℕ) (x : X) → k < length xs → x ≡ slice_index_or xs k x
    → slice_get xs k ≡ Some x
found_here [] k x inside is = absurd (omega (arith, inside))
found_here (y ∷ xs) zero x inside is = ap Some (sym is)
found_here (y ∷ xs) (suc k) x inside is = found_here xs k x (omega (arith, inside)) is

pub found_nowhere : {X : Type 0} (xs : List X) (k : ℕ) → length xs ≤ k → slice_get xs k ≡ None
found_nowhere [] k past = refl
found_nowhere (x ∷ xs) zero past = absurd (omega (arith, past))
found_nowhere (x ∷ xs) (suc k) past = found_nowhere xs k (omega (arith, past))

pub change_count : (f : Cell → Cell) (cells : List Cell) (k : ℕ) → length (change_at f cells k) ≡ length cells
change_count f [] k = refl
change_count f (x ∷ cs) zero = refl
change_count f (x ∷ cs) (suc k) = ap suc (change_count f cs k)

-- ---- an array that is taken out and put back

given_twice : (a b : Array) (c : Cell) → given_array b (given_array a c) ≡ given_array b c
given_twice a b (cell.Value x) = refl
given_twice a b (cell.Array old) = refl

cells_twice : (a b : Array) (cells : List Cell) (k : ℕ) → change_at (given_array b) (change_at (given_array a) cells k)
    k ≡ change_at (given_array b) cells k
cells_twice a b [] k = refl
cells_twice a b (c ∷ cs) zero = ap (λ x. x ∷ cs) (given_twice a b c)
cells_twice a b (c ∷ cs) (suc k) = ap (λ ys. c ∷ ys) (cells_twice a b cs k)

set_twice : {X : Type 0} (a b : X) (xs : List X) (k : ℕ) → slice_set (slice_set xs k a) k b ≡ slice_set xs k b
set_twice a b [] k = refl
set_twice a b (x ∷ xs) zero = refl
set_twice a b (x ∷ xs) (suc k) = ap (λ ys. x ∷ ys) (set_twice a b xs k)

twice : (at : Reference) (a b : Array) (k : Kept) → with_array at b (with_array at a k) ≡ with_array at b k
twice (Shared n) a b k = ap (λ cs. record k { cells = cs }) (cells_twice a b k.cells n)
twice (Made n) a b k = ap (λ as_. record k { made = as_ }) (set_twice a b k.made n)
twice Nothing a b k = refl

given_same : (c : Cell) → given_array (unwrap_or (listed (Some c)) []) c ≡ c
given_same (cell.Value x) = refl
given_same (cell.Array a) = refl

cells_same : (cells : List Cell) (k : ℕ) → change_at (given_array (unwrap_or (listed (slice_get cells k)) [])) cells k
    ≡ cells
cells_same [] k = refl
cells_same (c ∷ cs) zero = ap (λ x. x ∷ cs) (given_same c)
cells_same (c ∷ cs) (suc k) = ap (λ ys. c ∷ ys) (cells_same cs k)

set_same : {X : Type 0} (d : X) (xs : List X) (k : ℕ) → slice_set xs k (unwrap_or (slice_get xs k) d) ≡ xs
set_same d [] k = refl
set_same d (x ∷ xs) zero = refl
set_same d (x ∷ xs) (suc k) = ap (λ ys. x ∷ ys) (set_same d xs k)

same : (at : Reference) (k : Kept) → with_array at (array_at k at) k ≡ k
same (Shared n) k = ap (λ cs. record k { cells = cs }) (cells_same k.cells n)
same (Made n) k = ap (λ as_. record k { made = as_ }) (set_same [] k.made n)
same Nothing k = refl

-- what a store is once the array is back
pub put_back : (old mid new : Kept) (at r : Reference) (empty elements : Array) → at ≡ r → mid ≡ with_array at empty old
    → new ≡ with_array at elements mid → new ≡ with_array r elements old
put_back old mid new at r empty elements is out back =
    back ∙ ap (with_array at elements) out ∙ twice at empty elements old ∙ ap (λ z. with_array z elements old) is

pub as_it_was : (old new : Kept) (r : Reference) (elements : Array) → new ≡ with_array r elements old
    → elements ≡ array_at old r → new ≡ old
as_it_was old new r elements is e = is ∙ ap (λ a. with_array r a old) e ∙ same r old

-- ---- a value that is taken out and set again

given_value_twice : (x y : Value) (c : Cell) → given_value y (given_value x c) ≡ given_value y c
given_value_twice x y (cell.Value old) = refl
given_value_twice x y (cell.Array a) = refl

values_twice : (x y : Value) (cells : List Cell) (k : ℕ) → change_at (given_value y) (change_at (given_value x) cells k)
    k ≡ change_at (given_value y) cells k
values_twice x y [] k = refl
values_twice x y (c ∷ cs) zero = ap (λ z. z ∷ cs) (given_value_twice x y c)
values_twice x y (c ∷ cs) (suc k) = ap (λ ys. c ∷ ys) (values_twice x y cs k)

pub value_twice : (a : Variable) (x y : Value) (k : Kept) → with_value a y (with_value a x k) ≡ with_value a y k
value_twice (Global n) x y k = ap (λ cs. record k { cells = cs }) (values_twice x y k.cells n)
value_twice (Parameter n) x y k = ap (λ fs. record k { frame = fs }) (set_twice (Scalar x) (Scalar y) k.frame n)

-- ---- results

pub ok_so : {T E P Q : Type 0} (r : Result T E) → OnOk r P → (P → Q) → OnOk r Q
ok_so (Ok x) p f = f p
ok_so (Err e) p f = tt

pub err_so : {T E : Type 0} {P Q : E → Type 0} (r : Result T E) → IfErr r P → ((e : E) → P e → Q e) → IfErr r Q
err_so (Ok x) p f = tt
err_so (Err e) p f = f e p

pub ok_always : {T E P : Type 0} (r : Result T E) → P → OnOk r P
ok_always (Ok x) p = p
ok_always (Err e) p = tt

-- ---- an array that is changed where it lies

pub set_nowhere : (as_ : List Array) (k : ℕ) (a : Array) → length as_ ≤ k → as_ ≡ slice_set as_ k a
set_nowhere [] k a past = refl
set_nowhere (x ∷ as_) zero a past = absurd (omega (arith, past))
set_nowhere (x ∷ as_) (suc k) a past = ap (λ ys. x ∷ ys) (set_nowhere as_ k a (omega (arith, past)))

-- what is there, put where it is
pub set_here : {X : Type 0} (xs : List X) (k : ℕ) (x : X) → x ≡ slice_index_or xs k x → slice_set xs k x ≡ xs
set_here [] k x is = refl
set_here (y ∷ xs) zero x is = ap (λ z. z ∷ xs) is
set_here (y ∷ xs) (suc k) x is = ap (λ ys. y ∷ ys) (set_here xs k x is)
