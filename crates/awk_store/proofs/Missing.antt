-- Parameters without an argument, one by one.
use Rattle.std.specs.Prelude.{◌≡◌, ◌+◌, ℕ, Bool, true, false, List, [], ◌∷◌, ◌++◌, length, refl}
use Rattle.std.proofs.Common.{◌∙◌, ap, arith, append_assoc, length-append}
use Rattle.awk_text.specs.declared.value.Value.TheVariants as v
use Rattle.awk_machine.specs.State.{Array}
use Rattle.awk_store.specs.declared.frame.Bound.{Bound}
use Rattle.awk_store.specs.declared.frame.Bound.TheVariants.{Scalar, Handed}
use Rattle.awk_store.specs.declared.frame.Reference.TheVariants.{Made}
use Rattle.awk_store.specs.Changes.{missing, new_arrays}

arrays_append : (xs ys : List Bool) → new_arrays (xs ++ ys) ≡ new_arrays xs ++ new_arrays ys
arrays_append [] ys = refl
arrays_append (true ∷ xs) ys = ap (λ as_. [] ∷ as_) (arrays_append xs ys)
arrays_append (false ∷ xs) ys = arrays_append xs ys

-- m is the number of the next array
missing_append : (n m : ℕ) (xs ys : List Bool) → m ≡ n + length (new_arrays xs) → missing n (xs ++ ys) ≡ missing n xs
    ++ missing m ys
missing_append n m [] ys e = let same : m ≡ n = omega (arith, e) in rw same refl
missing_append n m (true ∷ xs) ys e = ap (λ bs. Handed (Made n) ∷ bs)
    (missing_append (n + 1) m xs ys (omega (arith, e)))
missing_append n m (false ∷ xs) ys e = ap (λ bs. Scalar v.Unset ∷ bs) (missing_append n m xs ys e)

pub made_more : (m m1 m2 : List Array) (xs ys : List Bool) (b : Bool) → m1 ≡ m ++ new_arrays xs
    → m2 ≡ m1 ++ new_arrays (b ∷ []) → ys ≡ xs ++ b ∷ [] → m2 ≡ m ++ new_arrays ys
made_more m m1 m2 xs ys b e1 e2 e = rw (e2, e1, e, arrays_append xs (b ∷ []))
    (append_assoc m (new_arrays xs) (new_arrays (b ∷ [])))

pub frame_more : (f f1 f2 : List Bound) (m m1 : List Array) (xs ys : List Bool) (b : Bool)
    → f1 ≡ f ++ missing (length m) xs → m1 ≡ m ++ new_arrays xs
    → f2 ≡ f1 ++ missing (length m1) (b ∷ []) → ys ≡ xs ++ b ∷ [] → f2 ≡ f ++ missing (length m) ys
frame_more f f1 f2 m m1 xs ys b e1 e2 e3 e =
    let count : length m1 ≡ length m + length (new_arrays xs) = ap length e2 ∙ length-append m (new_arrays xs) in
    rw (e3, e1, e, missing_append (length m) (length m1) xs (b ∷ []) count) (append_assoc f (missing (length m) xs)
    (missing (length m1) (b ∷ [])))
