-- Sets of bytes, as ranges are added to them.
use Rattle.std.proofs.Common.{◌≡◌, ◌≢◌, ℕ, zero, suc, ◌+◌, ◌<◌, ◌≤◌, inl, inr, Bool, true, false, not, ◌&&◌, ◌||◌}
use Rattle.std.proofs.Common.{nat_le, nat_lt, cond, List, [], ◌∷◌, ◌++◌, length, refl, sym, ◌∙◌, ap, arith}
use Rattle.std.proofs.Common.{get_or-set_other, get_or-set_same}
use Rattle.std.proofs.Math.ListN.{set, replicate}
use Rattle.std.specs.List.{list_any}
use Rattle.std.proofs.lemmas.Bool.{cases_eq}
use Rattle.std.proofs.lemmas.Bool.Decides.{nat_tests}
use Rattle.awk_ere.specs.Bracket.{Range, in_range}
use Rattle.awk_ere.specs.Lexing.{has, Adds, IsNegated}

-- the bytes from low on and below k were added
abbrev pub IsAdding : ℕ → ℕ → List Bool → List Bool → Type 0
IsAdding low k old new = (b : ℕ) → b < 256 → has new b ≡ ((nat_le low b && nat_lt b k) || has old b)

no_byte : (low b : ℕ) → (nat_le low b && nat_lt b low) ≡ false
no_byte low b = grind (arith, nat_tests)

pub adding_begins : (low : ℕ) (old : List Bool) → IsAdding low low old old
adding_begins low old = λ b lt. ap (λ x. x || has old b) (sym (no_byte low b))

one_here : (low k : ℕ) → low ≤ k → (nat_le low k && nat_lt k (k + 1)) ≡ true
one_here low k le = grind (arith, nat_tests)

one_other : (low k b : ℕ) → b ≢ k → (nat_le low b && nat_lt b (k + 1)) ≡ (nat_le low b && nat_lt b k)
one_other low k b ne = grind (arith, nat_tests)

pub adding_more : (low k : ℕ) (old new : List Bool) → low ≤ k → k < length new → IsAdding low k old new
    → IsAdding low (k + 1) old (set new k true)
adding_more low k old new le inside h = λ b lt. elim (cases_eq b k) [
  | inl is ↦
      let e : has (set new k true) b ≡ true = ap (λ x. has (set new k true) x) is ∙ get_or-set_same new k true false
      inside in
      let f : ((nat_le low b && nat_lt b (k + 1)) || has old b) ≡ true =
      ap (λ x. x || has old b) (ap (λ x. nat_le low x && nat_lt x (k + 1)) is ∙ one_here low k le) in
      e ∙ sym f
  | inr ne ↦ get_or-set_other new k b true false ne ∙ h b lt ∙ ap (λ x. x || has old b) (sym (one_other low k b ne))
]

whole_range : (low high k b : ℕ) → (low ≤ high + 1 → k ≡ high + 1) → (high + 1 < low → k ≡ low)
    → ((nat_le low b && nat_lt b k) ≡ ((nat_le low b && nat_le b high) || false))
whole_range low high k b up down = grind (arith, nat_tests)

pub adding_ends : (low high k : ℕ) (old new : List Bool) → (low ≤ high + 1 → k ≡ high + 1) → (high + 1 < low → k ≡ low)
    → IsAdding low k old new → Adds old ((low, high) ∷ []) new
adding_ends low high k old new up down h = λ b lt. h b lt ∙ ap (λ x. x || has old b) (whole_range low high k b up down)

-- more ranges
any_append : (b : ℕ) (xs ys : List Range) → list_any (in_range b) (xs ++ ys)
    ≡ (list_any (in_range b) ys || list_any (in_range b) xs)
any_append b [] ys = sym (or_false (list_any (in_range b) ys)) where
  or_false : (x : Bool) → (x || false) ≡ x
  or_false true = refl
  or_false false = refl
any_append b (x ∷ xs) ys = ap (λ z. in_range b x || z) (any_append b xs ys) ∙ swapped (in_range b x)
    (list_any (in_range b) ys) (list_any (in_range b) xs) where
      swapped : (x y z : Bool) → (x || (y || z)) ≡ (y || (x || z))
      swapped true true z = refl
      swapped true false z = refl
      swapped false y z = refl

or_assoc : (x y z : Bool) → (x || (y || z)) ≡ ((x || y) || z)
or_assoc true y z = refl
or_assoc false y z = refl

pub adds_none : (set : List Bool) → Adds set [] set
adds_none set = λ b lt. refl

pub adds_more : (old mid new : List Bool) (xs ys : List Range) → Adds old xs mid → Adds mid ys new
    → Adds old (xs ++ ys) new
adds_more old mid new xs ys h g = λ b lt.
    g b lt ∙ ap (λ z. list_any (in_range b) ys || z) (h b lt) ∙ or_assoc (list_any (in_range b) ys)
    (list_any (in_range b) xs) (has old b)
    ∙ ap (λ z. z || has old b) (sym (any_append b xs ys))

-- each byte below k was turned
abbrev pub IsNegating : ℕ → List Bool → List Bool → Type 0
IsNegating k old new = (b : ℕ) → b < 256 → has new b ≡ cond (nat_lt b k) (not (has old b)) (has old b)

pub negating_begins : (old : List Bool) → IsNegating 0 old old
negating_begins old = λ b lt. (let e : nat_lt b 0 ≡ false = grind (arith, nat_tests) in
    ap (λ x. cond x (not (has old b)) (has old b)) (sym e))

pub negating_more : (k : ℕ) (old new : List Bool) (v : Bool) → k < 256 → k < length new → v ≡ not (has new k)
    → IsNegating k old new → IsNegating (k + 1) old (set new k v)
negating_more k old new v small inside is h = λ b lt. elim (cases_eq b k) [
  | inl same ↦
      let e : has (set new k v) b ≡ v = ap (λ x. has (set new k v) x) same ∙ get_or-set_same new k v false inside in
      let before : nat_lt k k ≡ false = grind (arith, nat_tests) in
      let after : nat_lt k (k + 1) ≡ true = grind (arith, nat_tests) in
      let was : has new k ≡ has old k = h k small ∙ ap (λ x. cond x (not (has old k)) (has old k)) before in
      e ∙ is ∙ ap not was ∙ sym (ap (λ x. cond x (not (has old k)) (has old k)) after)
      ∙ sym (ap (λ x. cond (nat_lt x (k + 1)) (not (has old x)) (has old x)) same)
  | inr ne ↦
      let step : nat_lt b k ≡ nat_lt b (k + 1) = grind (arith, nat_tests) in
      get_or-set_other new k b v false ne ∙ h b lt ∙ ap (λ x. cond x (not (has old b)) (has old b)) step
]

pub negating_ends : (k : ℕ) (old new : List Bool) → 256 ≤ k → IsNegating k old new → IsNegated old new
negating_ends k old new le h = λ b lt. (let e : nat_lt b k ≡ true = grind (arith, nat_tests) in
    h b lt ∙ ap (λ x. cond x (not (has old b)) (has old b)) e)

pub has_none : (n b : ℕ) → has (replicate n false) b ≡ false
has_none zero b = refl
has_none (suc n) zero = refl
has_none (suc n) (suc b) = has_none n b
