-- Lists of expressions, of which texts are wanted of all or of the first.
use Rattle.std.proofs.Common.{◌≡◌, ◌∙◌, ℕ, zero, suc, List, [], ◌∷◌, ◌++◌, map, Result, Ok, Err, OnOk, length, take}
use Rattle.std.proofs.Common.{drop, min, ap, refl, append_assoc}
use native.Mathlib.Numerals.{unary_clauses}
use Rattle.awk_text.specs.declared.place.Place.{Place}
use Rattle.awk_tree.specs.Tree.{Tree, trees_of}
use Rattle.awk_numbers.specs.declared.number.Numbers.{Numbers}
use Rattle.awk_program.specs.Program as p
use Rattle.awk_program.specs.Program.{expressions_of}
use Rattle.awk_lowering.specs.Lowered.{lowered, lowered_text, lowered_list}
use Rattle.awk_lowering.specs.OneByOne.{first_lowered}
use Rattle.awk_lowering.specs.Scopes.{Scope}
use Rattle.awk_lowering.specs.Texts.{textuals, first_textuals}

pub list_is : (c : Scope) (xs : List Tree) → lowered_list c (trees_of xs) ≡ expressions_of (map (lowered c) xs)
list_is c [] = refl
list_is c (x ∷ xs) = ap (λ ys. p.more (lowered c x) ys) (list_is c xs)

pub texts_are : (c : Scope) (q : Place) (xs : List Tree)
    → textuals c.numbers q (lowered_list c (trees_of xs)) ≡ expressions_of (map (lowered_text c q) xs)
texts_are c q [] = refl
texts_are c q (x ∷ xs) = ap (λ ys. p.more (lowered_text c q x) ys) (texts_are c q xs)

pub firsts_are : (c : Scope) (q : Place) (n : ℕ) (xs : List Tree)
    → first_textuals c.numbers q n (lowered_list c (trees_of xs)) ≡ expressions_of (first_lowered c q n xs)
firsts_are c q zero [] = refl
firsts_are c q zero (x ∷ xs) = list_is c (x ∷ xs)
firsts_are c q (suc n) [] = refl
firsts_are c q (suc n) (x ∷ xs) = ap (λ ys. p.more (lowered_text c q x) ys) (firsts_are c q n xs)

pub first_none : (numbers : Numbers) (q : Place) (n : ℕ) → first_textuals numbers q n p.none ≡ p.none
first_none numbers q zero = refl
first_none numbers q (suc n) = refl

firsts_at : {A : Type 0} (c : Scope) (q : Place) (view : A → Tree) (n : ℕ) (xs : List A)
    → map (lowered_text c q) (map view (take (min n (length xs)) xs))
    ++ map (lowered c) (map view (drop (min n (length xs)) xs)) ≡ first_lowered c q n (map view xs)
firsts_at c q view zero [] = refl
firsts_at c q view zero (x ∷ xs) = simp unary_clauses refl
firsts_at c q view (suc n) [] = simp unary_clauses refl
firsts_at c q view (suc n) (x ∷ xs) =
    simp unary_clauses (ap (λ ys. lowered_text c q (view x) ∷ ys) (firsts_at c q view n xs))

-- of a list that was split there
pub firsts_split : {A : Type 0} (c : Scope) (q : Place) (view : A → Tree) (n : ℕ) (xs first rest : List A) (k : ℕ)
    → k ≡ min n (length xs) → first ≡ take k xs → rest ≡ drop k xs
    → map (lowered_text c q) (map view first) ++ map (lowered c) (map view rest) ≡ first_lowered c q n (map view xs)
firsts_split c q view n xs first rest k e f g = rw (f, g, e) (firsts_at c q view n xs)

-- a list that grew twice
pub rest_behind : {A E : Type 0} (filled : Result Unit E) (new mid old xs ys all : List A) → mid ≡ old ++ xs
    → xs ++ ys ≡ all → OnOk filled (new ≡ mid ++ ys) → OnOk filled (new ≡ old ++ all)
rest_behind (Ok u) new mid old xs ys all e f h =
    h ∙ ap (λ zs. zs ++ ys) e ∙ append_assoc old xs ys ∙ ap (λ zs. old ++ zs) f
rest_behind (Err x) new mid old xs ys all e f h = tt
