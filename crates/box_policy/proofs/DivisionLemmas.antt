-- A division from the front, one element at a time.
use Rattle.std.proofs.Common.{◌≡◌, ◌∙◌, Bool, true, false, ◌&&◌, ◌||◌, not, List, [], ◌∷◌, ℕ, ◌<◌, map, length, sym, ap}
use Rattle.std.proofs.Common.{refl, arith, cond}
use Rattle.std.specs.List.{list_any, list_all}
use Rattle.box_policy.specs.Division.{Symbol, is_one, takes, cuts, fits}

abbrev pub symbol : {A : Type 0} → Bool → (A → Bool) → Symbol A
symbol is_run test = record { is_run = is_run; test = test }

list_any_none : {X : Type 0} (xs : List X) → list_any (λ _. false) xs ≡ false
list_any_none [] = refl
list_any_none (x ∷ xs) = list_any_none xs

pub list_any-map : {X Y : Type 0} (p : Y → Bool) (f : X → Y) (xs : List X)
    → list_any p (map f xs) ≡ list_any (λ x. p (f x)) xs
list_any-map p f [] = refl
list_any-map p f (x ∷ xs) = ap (λ b. p (f x) || b) (list_any-map p f xs)

list_any_both : {X : Type 0} (b : Bool) (p q : X → Bool) (xs : List X) → list_any (λ x. (b && p x) && q x) xs
    ≡ (b && list_any (λ x. p x && q x) xs)
list_any_both true p q xs = refl
list_any_both false p q xs = list_any_none xs

pub or_false : (b : Bool) → (b || false) ≡ b
or_false true = refl
or_false false = refl

-- a symbol before no element
pub fits-none : {A : Type 0} (is_run : Bool) (test : A → Bool) (symbols : List (Symbol A))
    → fits (symbol is_run test ∷ symbols) [] ≡ (is_run && fits symbols [])
fits-none true test symbols = or_false (fits symbols [])
fits-none false test symbols = refl

one_taken : {A : Type 0} (test : A → Bool) (symbols : List (Symbol A)) (x : A) (rest : List A)
    → list_any (λ cut. is_one test (x ∷ cut.0) && fits symbols cut.1) (cuts rest) ≡ (test x && fits symbols rest)
one_taken test symbols x [] = or_false (test x && fits symbols [])
one_taken test symbols x (y ∷ ys) =
    ap (λ b. (test x && fits symbols (y ∷ ys)) || b)
    (list_any-map (λ cut. is_one test (x ∷ cut.0) && fits symbols cut.1) (λ cut. (y ∷ cut.0, cut.1)) (cuts ys)
    ∙ list_any_none (cuts ys))
    ∙ or_false (test x && fits symbols (y ∷ ys))

-- a symbol before an element: a run may end before it, and else the element has to pass
pub fits-more : {A : Type 0} (is_run : Bool) (test : A → Bool) (symbols : List (Symbol A)) (x : A) (rest : List A)
    → fits (symbol is_run test ∷ symbols) (x ∷ rest) ≡ ((is_run && fits symbols (x ∷ rest))
    || (test x && fits (cond is_run (symbol is_run test ∷ symbols) symbols) rest))
fits-more true test symbols x rest =
    ap (λ b. fits symbols (x ∷ rest) || b)
    (list_any-map (λ cut. list_all test cut.0 && fits symbols cut.1) (λ cut. (x ∷ cut.0, cut.1)) (cuts rest)
    ∙ list_any_both (test x) (λ cut. list_all test cut.0) (λ cut. fits symbols cut.1) (cuts rest))
fits-more false test symbols x rest =
    list_any-map (λ cut. is_one test cut.0 && fits symbols cut.1) (λ cut. (x ∷ cut.0, cut.1)) (cuts rest)
    ∙ one_taken test symbols x rest
