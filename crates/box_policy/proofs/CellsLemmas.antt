-- A row of cells fits what its symbols fit, and a step over one element more.
use Rattle.std.proofs.Common.{◌≡◌, ◌∙◌, ◌<◌, ◌≤◌, ◌+◌, ◌≢◌, ℕ, zero, suc, Bool, true, false, ◌&&◌, ◌||◌, not, List, []}
use Rattle.std.proofs.Common.{◌∷◌, ◌++◌, length, map, cond, sym, ap, refl, arith}
use Rattle.std.proofs.lemmas.Bool.{true≢false, or_cases, or_left, or_right, and_parts}
use Rattle.box_policy.specs.Division.{Symbol, fits}
use Rattle.box_policy.specs.Cells.{Cell, cell, never, row, is_nil, row_fits, loop_at, test_at, reach, came, ones}
use Rattle.box_policy.specs.Cells.{IsInside, IsNested, is_at}
use Rattle.box_policy.proofs.DivisionLemmas.{symbol, fits-none, fits-more, or_false}

-- ---- the row of a pattern

row_more : {A : Type 0} (passes : A → Bool) (ss : List (Symbol A)) → is_nil (row passes ss) ≡ false
row_more passes [] = refl
row_more passes (s ∷ ss) = by_kind s.is_run s.test passes ss (row_more (λ x. passes x || s.test x) ss)
  where
    by_kind : {A : Type 0} (is_run : Bool) (test : A → Bool) (passes : A → Bool) (ss : List (Symbol A))
        → is_nil (row (λ x. passes x || test x) ss) ≡ false
        → is_nil (row passes (symbol is_run test ∷ ss)) ≡ false
    by_kind true test passes ss h = h
    by_kind false test passes ss h = refl

-- a run may be empty
run_skipped : {A : Type 0} (p : A → Bool) (ss : List (Symbol A)) (subject : List A) → fits ss subject ≡ true
    → fits (symbol true p ∷ ss) subject ≡ true
run_skipped p ss [] h = fits-none true p ss ∙ h
run_skipped p ss (x ∷ xs) h = fits-more true p ss x xs ∙ or_left (fits ss (x ∷ xs))
    (p x && fits (symbol true p ∷ ss) xs) h

inside_more : (a t p g l : Bool) → (t ≡ true → p ≡ true) → (g ≡ true → l ≡ true) → ((a || (t && g)) || (p && l))
    ≡ (a || (p && l))
inside_more a false p g l h k = grind arith
inside_more a true p false l h k = grind arith
inside_more a true p true l h k = rw (h refl, k refl) (grind arith)

-- a run inside the one before it adds nothing
run_run : {A : Type 0} (p t : A → Bool) (ss : List (Symbol A)) (subject : List A) → ((x : A) → t x ≡ true → p x ≡ true)
    → fits (symbol true p ∷ symbol true t ∷ ss) subject ≡ fits (symbol true p ∷ ss) subject
run_run p t ss [] h = fits-none true p (symbol true t ∷ ss) ∙ (fits-none true t ss ∙ sym (fits-none true p ss))
run_run p t ss (x ∷ xs) h =
    fits-more true p (symbol true t ∷ ss) x xs
    ∙ (ap (λ b. b || (p x && fits (symbol true p ∷ symbol true t ∷ ss) xs)) (fits-more true t ss x xs)
    ∙ (inside_more (fits ss (x ∷ xs)) (t x) (p x) (fits (symbol true t ∷ ss) xs)
    (fits (symbol true p ∷ symbol true t ∷ ss) xs) (h x) (run_skipped p (symbol true t ∷ ss) xs)
    ∙ (ap (λ b. fits ss (x ∷ xs) || (p x && b)) (run_run p t ss xs h) ∙ sym (fits-more true p ss x xs))))

absorbed : (p t : Bool) → (t ≡ true → p ≡ true) → (p || t) ≡ p
absorbed true t h = refl
absorbed false false h = refl
absorbed false true h = sym (h refl)

same_tests : {A : Type 0} (p t : A → Bool) → ((x : A) → t x ≡ true → p x ≡ true) → (λ x. p x || t x) ≡ p
same_tests p t h = λ i. λ x. absorbed (p x) (t x) (h x) i

-- the last cell
last_fits : {A : Type 0} (p : A → Bool) (subject : List A) → row_fits (cell p never ∷ []) subject
    ≡ fits (symbol true p ∷ []) subject
last_fits p [] = sym (fits-none true p [])
last_fits p (x ∷ xs) = or_false (p x && row_fits (cell p never ∷ []) xs) ∙ (ap (λ b. p x && b) (last_fits p xs)
    ∙ sym (fits-more true p [] x xs))

swapped : (a b : Bool) → (a || b) ≡ (b || a)
swapped a b = grind arith

-- a cell before one element
one_fits : {A : Type 0} (p t : A → Bool) (cs : List (Cell A)) (ss : List (Symbol A)) → is_nil cs ≡ false
    → ((rest : List A) → row_fits cs rest ≡ fits ss rest)
    → (subject : List A) → row_fits (cell p t ∷ cs) subject ≡ fits (symbol true p ∷ symbol false t ∷ ss) subject
one_fits p t cs ss more same [] = more ∙ sym (fits-none true p (symbol false t ∷ ss))
one_fits p t cs ss more same (x ∷ xs) =
    ap (λ b. (p x && row_fits (cell p t ∷ cs) xs) || (t x && b)) (same xs)
    ∙ (ap (λ b. (p x && b) || (t x && fits ss xs)) (one_fits p t cs ss more same xs)
    ∙ (swapped (p x && fits (symbol true p ∷ symbol false t ∷ ss) xs) (t x && fits ss xs)
    ∙ (ap (λ b. b || (p x && fits (symbol true p ∷ symbol false t ∷ ss) xs)) (sym (fits-more false t ss x xs))
    ∙ sym (fits-more true p (symbol false t ∷ ss) x xs))))

one_here : {A : Type 0} (t : A → Bool) (cs : List (Cell A)) (ss : List (Symbol A)) → is_nil cs ≡ false
    → ((rest : List A) → row_fits cs rest ≡ fits ss rest)
    → (subject : List A) → row_fits (cell never t ∷ cs) subject ≡ fits (symbol false t ∷ ss) subject
one_here t cs ss more same [] = more
one_here t cs ss more same (x ∷ xs) = ap (λ b. t x && b) (same xs) ∙ sym (fits-more false t ss x xs)

end_here : {A : Type 0} (subject : List A) → row_fits (cell never never ∷ []) subject ≡ fits [] subject
end_here [] = refl
end_here (x ∷ xs) = refl

-- behind a run, and where no run is before
BothFit : {A : Type 0} → List (Symbol A) → Type 0
BothFit {A} ss =
    ((p : A → Bool) → IsInside p ss → (subject : List A)
    → row_fits (row p ss) subject ≡ fits (symbol true p ∷ ss) subject)
    × ((subject : List A) → row_fits (row never ss) subject ≡ fits ss subject)

both_more : {A : Type 0} (is_run : Bool) (t : A → Bool) (ss : List (Symbol A)) → IsNested (symbol is_run t ∷ ss)
    → BothFit ss → BothFit (symbol is_run t ∷ ss)
unfolding BothFit
both_more true t ss nested h = (
  λ p inside subject. ap (λ q. row_fits (row q ss) subject) (same_tests p t (inside refl))
      ∙ (h.0 p (wider p t ss (inside refl) (nested.0 refl)) subject ∙ sym (run_run p t ss subject (inside refl))),
  λ subject. h.0 t (nested.0 refl) subject,
)
  where
    wider : {A : Type 0} (p t : A → Bool) (ss : List (Symbol A)) → ((x : A) → t x ≡ true → p x ≡ true) → IsInside t ss
        → IsInside p ss
    wider p t [] h inside = tt
    wider p t (s ∷ ss) h inside = λ is_run x passes. h x (inside is_run x passes)
both_more false t ss nested h = (
  λ p inside subject. one_fits p t (row never ss) ss (row_more never ss) h.1 subject,
  λ subject. one_here t (row never ss) ss (row_more never ss) h.1 subject,
)

both_fit : {A : Type 0} (ss : List (Symbol A)) → IsNested ss → BothFit ss
unfolding BothFit
both_fit [] nested = (λ p inside subject. last_fits p subject, λ subject. end_here subject)
both_fit (s ∷ ss) nested = both_more s.is_run s.test ss nested (both_fit ss nested.1)

pub row-fits : {A : Type 0} (ss : List (Symbol A)) → IsNested ss → (subject : List A) → row_fits (row never ss) subject
    ≡ fits ss subject
unfolding BothFit
row-fits ss nested subject = (both_fit ss nested).1 subject

pub length-row : {A : Type 0} (p : A → Bool) (ss : List (Symbol A)) → length (row p ss) ≡ suc (ones ss)
length-row p [] = refl
length-row p (s ∷ ss) = by_kind s.is_run s.test p ss (length-row (λ x. p x || s.test x) ss) (length-row never ss)
  where
    by_kind : {A : Type 0} (is_run : Bool) (t p : A → Bool) (ss : List (Symbol A)) → length (row (λ x. p x || t x) ss)
        ≡ suc (ones ss) → length (row never ss) ≡ suc (ones ss)
        → length (row p (symbol is_run t ∷ ss)) ≡ suc (ones (symbol is_run t ∷ ss))
    by_kind true t p ss h k = h
    by_kind false t p ss h k = ap suc k

-- ---- one symbol more at the end

pub is_at-same : (n : ℕ) → is_at n n ≡ true
is_at-same zero = refl
is_at-same (suc n) = is_at-same n

pub is_at-other : (k n : ℕ) → k ≢ n → is_at k n ≡ false
is_at-other zero zero h = absurd (h refl)
is_at-other zero (suc n) h = refl
is_at-other (suc k) zero h = refl
is_at-other (suc k) (suc n) h = is_at-other k n (λ e. h (ap suc e))

pub ones-push : {A : Type 0} (ss : List (Symbol A)) (is_run : Bool) (t : A → Bool) → ones (ss ++ (symbol is_run t ∷ []))
    ≡ cond is_run (ones ss) (ones ss + 1)
ones-push [] true t = refl
ones-push [] false t = refl
ones-push (s ∷ ss) is_run t = by_kind s.is_run s.test is_run t ss (ones-push ss is_run t)
  where
    by_kind : {A : Type 0} (other : Bool) (u : A → Bool) (is_run : Bool) (t : A → Bool) (ss : List (Symbol A))
        → ones (ss ++ (symbol is_run t ∷ [])) ≡ cond is_run (ones ss) (ones ss + 1)
        → ones (symbol other u ∷ (ss ++ (symbol is_run t ∷ []))) ≡ cond is_run (ones (symbol other u ∷ ss))
        (ones (symbol other u ∷ ss) + 1)
    by_kind true u is_run t ss h = h
    by_kind false u true t ss h = ap suc h
    by_kind false u false t ss h = omega (arith, h)

PushedAt : {A : Type 0} → Bool → (A → Bool) → List (Symbol A) → (A → Bool) → ℕ → A → Type 0
PushedAt is_run t ss p k x =
    (loop_at (row p (ss ++ (symbol is_run t ∷ []))) k x
    ≡ (loop_at (row p ss) k x || (is_run && (is_at k (ones ss) && t x))))
    × (test_at (row p (ss ++ (symbol is_run t ∷ []))) k x
    ≡ (test_at (row p ss) k x || (not is_run && (is_at k (ones ss) && t x))))

pushed_end : {A : Type 0} (is_run : Bool) (t p : A → Bool) (k : ℕ) (x : A) → PushedAt is_run t [] p k x
unfolding PushedAt
pushed_end true t p zero x = (refl, refl)
pushed_end true t p (suc k) x = (refl, refl)
pushed_end false t p zero x = (sym (or_false (p x)), refl)
pushed_end false t p (suc zero) x = (refl, refl)
pushed_end false t p (suc (suc k)) x = (refl, refl)

pushed_more : {A : Type 0} (other : Bool) (u : A → Bool) (is_run : Bool) (t : A → Bool) (ss : List (Symbol A)) (p : A
    → Bool) (k : ℕ) (x : A)
    → ((q : A → Bool) (j : ℕ) → PushedAt is_run t ss q j x) → PushedAt is_run t (symbol other u ∷ ss) p k x
unfolding PushedAt
pushed_more true u is_run t ss p k x h = h (λ y. p y || u y) k
pushed_more false u is_run t ss p (suc k) x h = h never k
pushed_more false u true t ss p zero x h = (sym (or_false (p x)), sym (or_false (u x)))
pushed_more false u false t ss p zero x h = (sym (or_false (p x)), sym (or_false (u x)))

pushed : {A : Type 0} (is_run : Bool) (t : A → Bool) (ss : List (Symbol A)) (x : A) (p : A → Bool) (k : ℕ)
    → PushedAt is_run t ss p k x
unfolding PushedAt
pushed is_run t [] x p k = pushed_end is_run t p k x
pushed is_run t (s ∷ ss) x p k = pushed_more s.is_run s.test is_run t ss p k x (λ q j. pushed is_run t ss x q j)

pub loop_at-push : {A : Type 0} (s : Symbol A) (ss : List (Symbol A)) (k : ℕ) (x : A)
    → loop_at (row never (ss ++ (s ∷ []))) k x
    ≡ (loop_at (row never ss) k x || (s.is_run && (is_at k (ones ss) && s.test x)))
unfolding PushedAt
loop_at-push s ss k x = (pushed s.is_run s.test ss x never k).0

pub test_at-push : {A : Type 0} (s : Symbol A) (ss : List (Symbol A)) (k : ℕ) (x : A)
    → test_at (row never (ss ++ (s ∷ []))) k x
    ≡ (test_at (row never ss) k x || (not s.is_run && (is_at k (ones ss) && s.test x)))
unfolding PushedAt
test_at-push s ss k x = (pushed s.is_run s.test ss x never k).1

-- ---- a step

step_parts : (r l t m f g later : Bool)
    → ((((r && l) || m) && f) || (((r && t) && g) || later)) ≡ ((m && f) || ((r && ((l && f) || (t && g))) || later))
step_parts r l t m f g later = grind arith

reach_from : {A : Type 0} (cs : List (Cell A)) (old new : ℕ → Bool) (moved : Bool) (x : A) (rest : List A)
    → ((k : ℕ) → k < length cs → new k ≡ ((old k && loop_at cs k x) || came old moved cs k x))
    → reach new cs rest ≡ ((moved && row_fits cs rest) || reach old cs (x ∷ rest))
reach_from [] old new true x rest h = refl
reach_from [] old new false x rest h = refl
reach_from (c ∷ cs) old new moved x rest h =
    let later : reach (λ k. new (suc k)) cs rest ≡ (((old 0 && c.test x) && row_fits cs rest)
    || reach (λ k. old (suc k)) cs (x ∷ rest)) =
    reach_from cs (λ k. old (suc k)) (λ k. new (suc k)) (old 0 && c.test x) x rest (shifted c cs old new moved x h) in
    ap (λ b. (b && row_fits (c ∷ cs) rest) || reach (λ k. new (suc k)) cs rest) (h 0 (omega arith))
    ∙ (ap (λ b. (((old 0 && c.loop x) || moved) && row_fits (c ∷ cs) rest) || b) later
    ∙ step_parts (old 0) (c.loop x) (c.test x) moved (row_fits (c ∷ cs) rest) (row_fits cs rest)
    (reach (λ k. old (suc k)) cs (x ∷ rest)))
  where
    shifted : {A : Type 0} (c : Cell A) (cs : List (Cell A)) (old new : ℕ → Bool) (moved : Bool) (x : A)
        → ((k : ℕ) → k < length (c ∷ cs) → new k ≡ ((old k && loop_at (c ∷ cs) k x) || came old moved (c ∷ cs) k x))
        → (k : ℕ) → k < length cs
        → new (suc k) ≡ ((old (suc k) && loop_at cs k x) || came (λ j. old (suc j)) (old 0 && c.test x) cs k x)
    shifted c cs old new moved x h zero l = h 1 (omega arith)
    shifted c cs old new moved x h (suc k) l = h (suc (suc k)) (omega arith)

-- the places that are reached behind one element more
pub reach-step : {A : Type 0} (cs : List (Cell A)) (old new : ℕ → Bool) (x : A) (rest : List A)
    → ((k : ℕ) → k < length cs → new k ≡ ((old k && loop_at cs k x) || came old false cs k x))
    → reach new cs rest ≡ reach old cs (x ∷ rest)
reach-step cs old new x rest h = reach_from cs old new false x rest h

-- where no place is reached nothing fits
pub reach-none : {A : Type 0} (cs : List (Cell A)) (reached : ℕ → Bool) (subject : List A)
    → ((k : ℕ) → reached k ≡ false) → reach reached cs subject ≡ false
reach-none [] reached subject h = refl
reach-none (c ∷ cs) reached subject h = rw (h 0) (reach-none cs (λ k. reached (suc k)) subject (λ k. h (suc k)))

-- from the first place on
pub reach-start : {A : Type 0} (cs : List (Cell A)) (reached : ℕ → Bool) (subject : List A) → reached 0 ≡ true
    → ((k : ℕ) → reached (suc k) ≡ false) → reach reached cs subject ≡ row_fits cs subject
reach-start [] reached subject first others = refl
reach-start (c ∷ cs) reached subject first others =
    rw (first, reach-none cs (λ k. reached (suc k)) subject others) (or_false (row_fits (c ∷ cs) subject))

-- where the subject ends, the last place decides
pub reach-end : {A : Type 0} (cs : List (Cell A)) (n : ℕ) (reached : ℕ → Bool) → length cs ≡ suc n
    → reach reached cs [] ≡ reached n
reach-end [] n reached h = absurd (omega arith)
reach-end (c ∷ []) zero reached h = both_true (reached 0)
  where
    both_true : (b : Bool) → ((b && true) || false) ≡ b
    both_true true = refl
    both_true false = refl
reach-end (c ∷ []) (suc n) reached h = absurd (omega arith)
reach-end (c ∷ d ∷ cs) zero reached h = absurd (omega arith)
reach-end (c ∷ d ∷ cs) (suc n) reached h = none (reached 0) ∙ reach-end (d ∷ cs) n (λ k. reached (suc k)) (omega arith)
  where
    none : (b : Bool) {later : Bool} → ((b && false) || later) ≡ later
    none true = refl
    none false = refl
