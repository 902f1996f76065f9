-- Lists that stand one behind the other.
use Rattle.std.proofs.Common.{◌≡◌, ℕ, zero, suc, ◌+◌, ◌<◌, ◌≤◌, List, [], ◌∷◌, ◌++◌, length, get_or, take, drop, refl}
use Rattle.std.proofs.Common.{sym, ◌∙◌, ap, subst, arith}
use Rattle.std.proofs.Math.Seq.{drop-append_seam}
use Rattle.std.proofs.Math.ListN.{length-append}
use Rattle.std.specs.List.{slice_range}
use Rattle.std.proofs.lemmas.List.{get_or_default, take-append-drop, take-append-le, length-take-le}
use Rattle.std.proofs.lemmas.Slice.{between_is, between_to_end}
use Rattle.awk_ere.specs.Cuts.{pieces, AreEnds}
use Rattle.awk_ere.specs.Table.{steps_of}

pub pieces_length : (from : ℕ) (s es : List ℕ) → length (pieces from s es) ≡ length es
pieces_length from s [] = refl
pieces_length from s (e ∷ es) = let h = pieces_length e s es in omega (arith, h)

pub piece_at : (from : ℕ) (s es : List ℕ) (at : ℕ) → at < length es
    → steps_of (pieces from s es) at ≡ slice_range s (get_or (from ∷ es) at 0) (get_or es at 0)
piece_at from s [] at lt = absurd (omega arith)
piece_at from s (e ∷ es) zero lt = refl
piece_at from s (e ∷ es) (suc at) lt = piece_at e s es at (omega arith)

-- where the next piece begins
pub ends_before : (from to : ℕ) (es : List ℕ) (at : ℕ) → AreEnds from to es → at ≤ length es
    → (from ≤ get_or (from ∷ es) at 0) × (get_or (from ∷ es) at 0 ≤ to)
ends_before from to [] at h le = let z : at ≡ 0 = omega (arith, le) in
    subst (λ k. (from ≤ get_or (from ∷ []) k 0) × (get_or (from ∷ []) k 0 ≤ to)) (sym z) (omega arith, h)
ends_before from to (e ∷ es) zero h le = let y = ends_before e to es 0 h.1 (omega arith) in
    (omega arith, omega (arith, h.0, y.0, y.1))
ends_before from to (e ∷ es) (suc at) h le = let y = ends_before e to es at h.1 (omega arith) in
    (omega (arith, h.0, y.0), y.1)

-- a piece ends where it begins, or later
pub ends_behind : (from to : ℕ) (es : List ℕ) (at : ℕ) → AreEnds from to es → at < length es
    → (get_or (from ∷ es) at 0 ≤ get_or es at 0) × (get_or es at 0 ≤ to)
ends_behind from to [] at h lt = absurd (omega arith)
ends_behind from to (e ∷ es) zero h lt = let y = ends_before e to es 0 h.1 (omega arith) in
    (h.0, omega (arith, y.0, y.1))
ends_behind from to (e ∷ es) (suc at) h lt = ends_behind e to es at h.1 (omega arith)

-- the ends stay in order where what is behind the last is cut off
pub ends_cut : (from to n : ℕ) (es : List ℕ) → AreEnds from to es → get_or (from ∷ es) (length es) 0 ≤ n
    → AreEnds from n es
ends_cut from to n [] h le = le
ends_cut from to n (e ∷ es) h le = (h.0, ends_cut e to n es h.1 le)

pub ends_push : (from to n : ℕ) (es : List ℕ) → AreEnds from to es → get_or (from ∷ es) (length es) 0 ≤ n
    → AreEnds from n (es ++ n ∷ [])
ends_push from to n [] h le = (le, omega arith)
ends_push from to n (e ∷ es) h le = (h.0, ends_push e to n es h.1 le)

slice_front : (xs ys : List ℕ) (i j : ℕ) → j ≤ length xs → slice_range (xs ++ ys) i j ≡ drop i (take j xs)
slice_front xs ys i j le = between_is (xs ++ ys) i j ∙ ap (λ l. drop i l) (take-append-le j xs ys le)

slice_cut : (xs ys : List ℕ) (n i j : ℕ) → j ≤ n → n ≤ length xs
    → slice_range (take n xs ++ ys) i j ≡ slice_range xs i j
slice_cut xs ys n i j le inside =
    let lt : j ≤ length (take n xs) = omega (arith, le, length-take-le n xs inside) in
    slice_front (take n xs) ys i j lt
    ∙ sym (slice_front (take n xs) (drop n xs) i j lt)
    ∙ ap (λ l. slice_range l i j) (take-append-drop n xs)

slice_last : (xs ys : List ℕ) (n : ℕ) → n ≤ length xs → slice_range (take n xs ++ ys) n (n + length ys) ≡ ys
slice_last xs ys n inside =
    let len = length-take-le n xs inside in
    between_to_end (take n xs ++ ys) n (n + length ys) (omega (arith, len, length-append {A = ℕ}))
    ∙ ap (λ k. drop k (take n xs ++ ys)) (sym len)
    ∙ drop-append_seam (take n xs) ys

-- a piece that is put last
pub pieces_push : (from : ℕ) (s es t : List ℕ) → AreEnds from (length s) es
    → pieces from (take (get_or (from ∷ es) (length es) 0) s ++ t)
    (es ++ (get_or (from ∷ es) (length es) 0 + length t) ∷ []) ≡ pieces from s es ++ t ∷ []
pieces_push from s [] t h = ap (λ l. l ∷ []) (slice_last s t from h)
pieces_push from s (e ∷ es) t h =
    let n = get_or (e ∷ es) (length es) 0 in
    let y = ends_before e (length s) es (length es) h.1 (omega arith) in
    ap (λ l. l ∷ pieces e (take n s ++ t) (es ++ (n + length t) ∷ [])) (slice_cut s t n from e y.0 y.1)
    ∙ ap (λ l. slice_range s from e ∷ l) (pieces_push e s es t h.1)

-- what the code reads of a piece
pub piece_bounds : (s es ends : List ℕ) (self : List (List ℕ)) (at start end : ℕ) → pieces 0 s es ≡ self
    → at < length self → AreEnds 0 (length s) es → ends ≡ es → start ≡ get_or (0 ∷ ends) at 0 → end ≡ get_or es at end
    → (at < length es) × (start ≤ end) × (end ≤ length s) × (slice_range s start end ≡ steps_of self at)
piece_bounds s es ends self at start end view lt order same begin finish =
    let count = pieces_length 0 s es in
    let view' = ap length view in
    let inside : at < length es = omega (arith, lt, count, view') in
    let begin' : start ≡ get_or (0 ∷ es) at 0 = begin ∙ ap (λ l. get_or (0 ∷ l) at 0) same in
    let finish' : end ≡ get_or es at 0 = finish ∙ sym (get_or_default es at 0 end inside) in
    let y = ends_behind 0 (length s) es at order inside in (
      inside,
      omega (arith, y.0, begin', finish'),
      omega (arith, y.1, finish'),
      ap (λ k. slice_range s k end) begin' ∙ ap (λ k. slice_range s (get_or (0 ∷ es) at 0) k) finish'
          ∙ sym (piece_at 0 s es at inside) ∙ ap (λ l. steps_of l at) view,
    )

-- what it leaves: the steps so far, and those of a list that may lack its end
module _ (s es ends : List ℕ) (start count : ℕ) (order : AreEnds 0 (length s) es) (same : ends ≡ es)
    (all : count ≡ length es) (begin : start ≡ get_or (0 ∷ ends) count 0) where
  begins : start ≡ get_or (0 ∷ es) (length es) 0
  begins = begin ∙ ap (λ l. get_or (0 ∷ l) count 0) same ∙ ap (λ k. get_or (0 ∷ es) k 0) all

  fits : start ≤ length s
  fits = let y = ends_before 0 (length s) es (length es) order (omega arith) in omega (arith, y.1, begins)

  pub kept_cut : (steps t : List ℕ) → steps ≡ take start s ++ t → AreEnds 0 (length steps) es
  kept_cut steps t is = ends_cut 0 (length s) (length steps) es order
      (let e = ap length is in let f = length-take-le start s fits in
      omega (arith, e, f, begins, length-append {A = ℕ}))

  pub kept_short : (steps : List ℕ) → steps ≡ take start s → AreEnds 0 (length steps) es
  kept_short steps is = ends_cut 0 (length s) (length steps) es order
      (let e = ap length is in let f = length-take-le start s fits in omega (arith, e, f, begins))

  module _ (steps new t : List ℕ) (len : ℕ) (is : steps ≡ take start s ++ t) (counted : len ≡ length steps)
      (more : new ≡ es ++ len ∷ []) where
    long : len ≡ get_or (0 ∷ es) (length es) 0 + length t
    long = let e = ap length is in let f = length-take-le start s fits in
        omega (arith, counted, e, f, begins, length-append {A = ℕ})

    pub pushed_ends : AreEnds 0 (length steps) new
    pushed_ends =
        subst (λ l. AreEnds 0 (length steps) l) (sym more) (subst (λ k. AreEnds 0 k (es ++ len ∷ [])) counted
        (ends_push 0 (length s) len es order (omega (arith, long))))

    pub pushed_view : (self : List (List ℕ)) → pieces 0 s es ≡ self → pieces 0 steps new ≡ self ++ t ∷ []
    pushed_view self view =
        ap (λ l. pieces 0 l new) is ∙ ap (λ l. pieces 0 (take start s ++ t) l) more
        ∙ ap (λ k. pieces 0 (take k s ++ t) (es ++ len ∷ [])) begins
        ∙ ap (λ k. pieces 0 (take (get_or (0 ∷ es) (length es) 0) s ++ t) (es ++ k ∷ [])) long
        ∙ pieces_push 0 s es t order ∙ ap (λ l. l ++ t ∷ []) view
