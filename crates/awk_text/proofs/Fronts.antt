-- The longest front of a list that passes a test, by the parts of the list.
use Rattle.std.proofs.Common.{◌≡◌, ℕ, suc, ◌+◌, ◌≤◌, Bool, true, false, List, [], ◌∷◌, ◌++◌, length, take, drop, refl}
use Rattle.std.proofs.Common.{ap, ◌∙◌, length-take, arith}
use mathlib.Core.Bool.{not}
use Rattle.std.proofs.lemmas.Bool.{and_from, and_parts, not-true}
use Rattle.std.proofs.lemmas.List.{drop_at, take_at}
use Rattle.std.proofs.lemmas.List.Sums.{prefix_len-le-length}
use Rattle.std.specs.List.{list_all, prefix_len, take_while}
use Rattle.awk_text.specs.Numerals.{drop_while}

-- the first element, if any, does not pass
abbrev pub stops : (ℕ → Bool) → List ℕ → Bool
stops p [] = true
stops p (x ∷ xs) = not (p x)

pub prefix_len-append : (p : ℕ → Bool) (xs ys : List ℕ) → list_all p xs ≡ true → stops p ys ≡ true
    → prefix_len p (xs ++ ys) ≡ length xs
prefix_len-append p [] [] all stop = refl
prefix_len-append p [] (y ∷ ys) all stop = rw (not-true (p y) stop) refl
prefix_len-append p (x ∷ xs) ys all stop =
    let parts = and_parts (p x) (list_all p xs) all in
    rw (parts.0) (omega (arith, prefix_len-append p xs ys parts.1 stop))

pub length-le-prefix_len : (p : ℕ → Bool) (xs ys : List ℕ) → list_all p xs ≡ true → length xs ≤ prefix_len p (xs ++ ys)
length-le-prefix_len p [] ys all = omega arith
length-le-prefix_len p (x ∷ xs) ys all =
    let parts = and_parts (p x) (list_all p xs) all in
    rw (parts.0) (omega (arith, length-le-prefix_len p xs ys parts.1))

pub drop_while-append : (p : ℕ → Bool) (xs ys : List ℕ) → list_all p xs ≡ true → stops p ys ≡ true
    → drop_while p (xs ++ ys) ≡ ys
drop_while-append p xs ys all stop = ap (λ n. drop n (xs ++ ys)) (prefix_len-append p xs ys all stop) ∙ drop_at xs ys
    (length xs) refl

pub take_while-append : (p : ℕ → Bool) (xs ys : List ℕ) → list_all p xs ≡ true → stops p ys ≡ true
    → take_while p (xs ++ ys) ≡ xs
take_while-append p xs ys all stop = ap (λ n. take n (xs ++ ys)) (prefix_len-append p xs ys all stop) ∙ take_at xs ys
    (length xs) refl

pub length-take_while : (p : ℕ → Bool) (xs : List ℕ) → length (take_while p xs) ≡ prefix_len p xs
length-take_while p xs = omega (arith, length-take (prefix_len p xs) xs, prefix_len-le-length p xs)

take_while_by : (here : Bool) (p : ℕ → Bool) (x : ℕ) (xs : List ℕ) → p x ≡ here → list_all p (take_while p xs) ≡ true
    → list_all p (take_while p (x ∷ xs)) ≡ true
take_while_by true p x xs h rest =
    let one : 1 + prefix_len p xs ≡ suc (prefix_len p xs) = omega arith in
    rw h (rw one (and_from (p x) (list_all p (take_while p xs)) h rest))
take_while_by false p x xs h rest = rw h refl

pub list_all-take_while : (p : ℕ → Bool) (xs : List ℕ) → list_all p (take_while p xs) ≡ true
list_all-take_while p [] = refl
list_all-take_while p (x ∷ xs) = take_while_by (p x) p x xs refl (list_all-take_while p xs)
