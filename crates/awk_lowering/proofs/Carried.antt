-- Lists that are made one by one.
use Rattle.std.proofs.Common.{◌≡◌, ◌∙◌, ◌⊎◌, inl, inr, Option, Some, None, ℕ, ◌+◌, ◌-◌, ◌<◌, ◌≤◌, zero, suc, List, []}
use Rattle.std.proofs.Common.{◌∷◌, ◌++◌, map, Result, Ok, Err, IfOk, OnOk, length, get_or, drop, take, ap, sym, refl}
use Rattle.std.proofs.Common.{arith, add-one}
use Rattle.awk_program.specs.declared.expressions.Expr.{Expr}
use Rattle.awk_program.specs.declared.expressions.Argument.{Argument}
use Rattle.awk_program.specs.Program as p
use Rattle.awk_program.specs.Program.{Expression, Arguments}
use Rattle.awk_program.specs.View.{Names}
use Rattle.awk_lowering.specs.Made.{with_argument, or_value, IsArgument}

drop_suc : {A : Type 0} (xs : List A) (i : ℕ) (d : A) → i < length xs → d ≡ get_or xs i d
    → drop i xs ≡ d ∷ drop (suc i) xs
drop_suc [] i d h e = absurd (omega arith)
drop_suc (x ∷ xs) zero d h e = ap (λ y. y ∷ xs) (sym e)
drop_suc (x ∷ xs) (suc i) d h e = drop_suc xs i d (omega arith) e

pub drop_here : {A : Type 0} (xs : List A) (i : ℕ) (d : A) → i < length xs → d ≡ get_or xs i d
    → drop i xs ≡ d ∷ drop (i + 1) xs
drop_here xs i d h e = rw add-one (drop_suc xs i d h e)

-- what was pushed, by what was to be pushed
abbrev pub Pushed : {A E : Type 0} → List A → List A → Result A E → Type 0
Pushed {A} old new next = (y : A) × (next ≡ Ok y) × (new ≡ old ++ y ∷ [])

map_push : {A B : Type 0} (view : A → B) (xs : List A) (y : A) (ys : List B) → map view (xs ++ y ∷ []) ++ ys
    ≡ map view xs ++ view y ∷ ys
map_push view [] y ys = refl
map_push view (x ∷ xs) y ys = ap (λ zs. view x ∷ zs) (map_push view xs y ys)

-- one turn of a loop that pushes
pub turned : {A B X T E : Type 0} (view : A → B) (low : T → B) (source : X → T) (all : List B) (old new : List A)
    (next : Result A E) (x : X) (xs : List X) (i : ℕ)
    → i < length xs → x ≡ get_or xs i x → IfOk next (λ y. view y ≡ low (source x)) → Pushed old new next
    → all ≡ map view old ++ map low (map source (drop i xs))
    → all ≡ map view new ++ map low (map source (drop (i + 1) xs))
turned view low source all old new next x xs i h e made (y, is, pushed) far =
    let same : view y ≡ low (source x) = rw is at made in
    let here : map low (map source (drop i xs)) ≡ low (source x) ∷ map low (map source (drop (i + 1) xs)) =
    ap (λ ys. map low (map source ys)) (drop_here xs i x h e) in
    far ∙ ap (λ ys. map view old ++ ys) here ∙ ap (λ z. map view old ++ z ∷ map low (map source (drop (i + 1) xs)))
    (sym same)
    ∙ sym (map_push view old y (map low (map source (drop (i + 1) xs))))
    ∙ ap (λ ys. map view ys ++ map low (map source (drop (i + 1) xs))) (sym pushed)

-- the same, of a list that is no tree
pub turned_plain : {A B X E : Type 0} (view : A → B) (low : X → B) (all : List B) (old new : List A) (next : Result A E)
    (x : X) (xs : List X) (i : ℕ)
    → i < length xs → x ≡ get_or xs i x → IfOk next (λ y. view y ≡ low x) → Pushed old new next
    → all ≡ map view old ++ map low (drop i xs) → all ≡ map view new ++ map low (drop (i + 1) xs)
turned_plain view low all old new next x xs i h e made (y, is, pushed) far =
    let same : view y ≡ low x = rw is at made in
    let here : map low (drop i xs) ≡ low x ∷ map low (drop (i + 1) xs) = ap (map low) (drop_here xs i x h e) in
    far ∙ ap (λ ys. map view old ++ ys) here ∙ ap (λ z. map view old ++ z ∷ map low (drop (i + 1) xs)) (sym same)
    ∙ sym (map_push view old y (map low (drop (i + 1) xs))) ∙ ap (λ ys. map view ys ++ map low (drop (i + 1) xs))
    (sym pushed)

-- what is boxed is what was made
pub boxed_is : {A B E : Type 0} (view : A → B) (boxed made : Result A E) (x : B)
    → IfOk boxed (λ y. made ≡ Ok y) → IfOk made (λ y. view y ≡ x) → IfOk boxed (λ y. view y ≡ x)
boxed_is view (Ok y) made x is h = rw is at h
boxed_is view (Err e) made x is h = tt

-- what is kept of a list, once it is whole
pub whole : {A B E : Type 0} (view : A → B) (made : Result (List A) E) (list : List A) (filled : Result Unit E)
    (all : List B)
    → IfOk made (λ kept. (kept ≡ list) × (filled ≡ Ok tt)) → OnOk filled (map view list ≡ all)
    → IfOk made (λ kept. map view kept ≡ all)
whole view (Ok kept) list filled all (is, was) h = ap (map view) is ∙ (rw was at h)
whole view (Err e) list filled all h k = tt

-- the same, of what is viewed as a whole
pub whole_as : {A B E : Type 0} (view : List A → B) (made : Result (List A) E) (list : List A) (filled : Result Unit E)
    (all : B)
    → IfOk made (λ kept. (kept ≡ list) × (filled ≡ Ok tt)) → OnOk filled (view list ≡ all)
    → IfOk made (λ kept. view kept ≡ all)
whole_as view (Ok kept) list filled all (is, was) h = ap view is ∙ (rw was at h)
whole_as view (Err e) list filled all h k = tt

-- a list of one
pub only_is : {A B E : Type 0} (view : A → B) (made : Result (List A) E) (next : Result A E) (y : B)
    → IfOk made (λ list. (x : A) × (next ≡ Ok x) × (list ≡ x ∷ [])) → IfOk next (λ x. view x ≡ y)
    → IfOk made (λ list. map view list ≡ y ∷ [])
only_is view (Ok list) next y (x, is, one) h =
    let same : view x ≡ y = rw is at h in ap (map view) one ∙ ap (λ z. z ∷ []) same
only_is view (Err e) next y made h = tt

-- ---- slices of a few

pub none_left : {A : Type 0} (xs : List A) → length xs < 1 → xs ≡ []
none_left [] n = refl
none_left (x ∷ xs) n = absurd (omega (arith, n))

pub just_one : {A : Type 0} (xs : List A) (x : A) → 1 ≤ length xs → length xs < 2 → x ≡ get_or xs 0 x → xs ≡ x ∷ []
just_one [] x n m e = absurd (omega (arith, n))
just_one (y ∷ []) x n m e = ap (λ z. z ∷ []) (sym e)
just_one (y ∷ z ∷ xs) x n m e = absurd (omega (arith, m))

pub just_two : {A : Type 0} (xs : List A) (x y : A) → 2 ≤ length xs → length xs < 3 → x ≡ get_or xs 0 x
    → y ≡ get_or xs 1 y → xs ≡ x ∷ y ∷ []
just_two [] x y n m e f = absurd (omega (arith, n))
just_two (u ∷ []) x y n m e f = absurd (omega (arith, n))
just_two (u ∷ v ∷ []) x y n m e f = ap (λ z. z ∷ v ∷ []) (sym e) ∙ ap (λ z. x ∷ z ∷ []) (sym f)
just_two (u ∷ v ∷ w ∷ xs) x y n m e f = absurd (omega (arith, m))

pub take_all : {A : Type 0} (xs : List A) (n : ℕ) → n ≡ length xs → take n xs ≡ xs
take_all [] zero e = refl
take_all [] (suc n) e = refl
take_all (x ∷ xs) zero e = absurd (omega (arith, e))
take_all (x ∷ xs) (suc n) e = ap (λ ys. x ∷ ys) (take_all xs n (omega (arith, e)))

pub first_and_rest : {A : Type 0} (xs : List A) (d : A) → 1 ≤ length xs → d ≡ get_or xs 0 d
    → xs ≡ d ∷ take (length xs - 1) (drop 1 xs)
first_and_rest [] d h e = absurd (omega (arith, h))
first_and_rest (x ∷ xs) d h e = ap (λ y. y ∷ xs) (sym e) ∙ ap (λ ys. d ∷ ys)
    (sym (take_all xs (length (x ∷ xs) - 1) (omega arith)))

-- what is handed on is the name by itself, or else the value
pub named_is : {E : Type 0} (t : Names) (front : Expression → Arguments → Arguments) (a : Expression)
    (found : Result (Option (Argument Expr)) E) (value made : Result (Argument Expr) E)
    → IfOk made (λ x. (found ≡ Ok (Some x)) ⊎ ((found ≡ Ok None) × (value ≡ Ok x)))
    → IfOk found (λ y. (b : Expression) (rest : Arguments) → or_value t y b rest ≡ front b rest)
    → IsArgument t value (λ rest. p.by_value a rest) → IsArgument t made (front a)
named_is t front a found value (Ok x) (inl e) h v =
    let same : (b : Expression) (rest : Arguments) → or_value t (Some x) b rest ≡ front b rest = rw e at h in same a
named_is t front a found value (Ok x) (inr (e, f)) h v =
    let same : (b : Expression) (rest : Arguments) → or_value t None b rest ≡ front b rest = rw e at h in
    let is : (rest : Arguments) → with_argument t x rest ≡ p.by_value a rest = rw f at v in
    λ rest. is rest ∙ same a rest
named_is t front a found value (Err e) is h v = tt
