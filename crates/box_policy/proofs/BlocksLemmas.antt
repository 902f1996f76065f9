-- The places of a pattern in words.
use Rattle.std.proofs.Common.{◌≡◌, ◌≢◌, ◌∙◌, ◌<◌, ◌≤◌, ◌+◌, ◌-◌, ◌*◌, ◌/◌, ◌%◌, ◌^◌, ℕ, zero, suc, Bool, true, false}
use Rattle.std.proofs.Common.{◌&&◌, ◌||◌, not, List, [], ◌∷◌, ◌++◌, length, map, cond, sym, ap, refl, arith, take, drop}
use Rattle.std.proofs.Common.{get_or, set, max, min, inl, inr, bit_and, bit_or, replicate, get_or-set_same}
use Rattle.std.proofs.Common.{get_or-set_other, subst}
use Rattle.std.specs.Prelude.{◌==◌}
use Rattle.std.specs.Int.{bit_at}
use Rattle.std.proofs.lemmas.Bool.{true≢false, false≢true, cases_eq, cases_lt}
use Rattle.std.proofs.lemmas.Nat.Bits.{bit_at_and, bit_at_or, bit_at-zero, bit_at-pow_same, bit_at-pow_other, bit_at-lt}
use Rattle.box_policy.specs.Blocks.{is_set, has}
use Rattle.box_policy.specs.Cells.{is_at}
use Rattle.box_policy.proofs.CellsLemmas.{is_at-same, is_at-other}

or_bits : (x y z : ℕ) → x < 2 → y < 2 → z ≡ max x y → (z == 1) ≡ ((x == 1) || (y == 1))
or_bits zero zero z l m e = let z0 : z ≡ 0 = omega (arith, e) in ap (λ n. n == 1) z0
or_bits zero (suc zero) z l m e = let z1 : z ≡ 1 = omega (arith, e) in ap (λ n. n == 1) z1
or_bits (suc zero) zero z l m e = let z1 : z ≡ 1 = omega (arith, e) in ap (λ n. n == 1) z1
or_bits (suc zero) (suc zero) z l m e = let z1 : z ≡ 1 = omega (arith, e) in ap (λ n. n == 1) z1
or_bits (suc (suc x)) y z l m e = absurd (omega arith)
or_bits zero (suc (suc y)) z l m e = absurd (omega arith)
or_bits (suc zero) (suc (suc y)) z l m e = absurd (omega arith)

and_bits : (x y z : ℕ) → x < 2 → y < 2 → z ≡ min x y → (z == 1) ≡ ((x == 1) && (y == 1))
and_bits zero zero z l m e = let z0 : z ≡ 0 = omega (arith, e) in ap (λ n. n == 1) z0
and_bits zero (suc zero) z l m e = let z0 : z ≡ 0 = omega (arith, e) in ap (λ n. n == 1) z0
and_bits (suc zero) zero z l m e = let z0 : z ≡ 0 = omega (arith, e) in ap (λ n. n == 1) z0
and_bits (suc zero) (suc zero) z l m e = let z1 : z ≡ 1 = omega (arith, e) in ap (λ n. n == 1) z1
and_bits (suc (suc x)) y z l m e = absurd (omega arith)
and_bits zero (suc (suc y)) z l m e = absurd (omega arith)
and_bits (suc zero) (suc (suc y)) z l m e = absurd (omega arith)

pub is_set-or : (a b j : ℕ) → is_set (bit_or a b) j ≡ (is_set a j || is_set b j)
is_set-or a b j = or_bits (bit_at a j) (bit_at b j) (bit_at (bit_or a b) j) (bit_at-lt a j) (bit_at-lt b j)
    (bit_at_or a b j)

pub is_set-and : (a b j : ℕ) → is_set (bit_and a b) j ≡ (is_set a j && is_set b j)
is_set-and a b j = and_bits (bit_at a j) (bit_at b j) (bit_at (bit_and a b) j) (bit_at-lt a j) (bit_at-lt b j)
    (bit_at_and a b j)

pub is_set-zero : (j : ℕ) → is_set 0 j ≡ false
is_set-zero j = ap (λ n. n == 1) (bit_at-zero j)

pub is_set-pow : (n j : ℕ) → is_set (2 ^ n) j ≡ is_at j n
is_set-pow n j =
    elim (cases_eq j n) [
      | inl same ↦ ap (λ k. is_set (2 ^ n) k) same ∙ (ap (λ x. x == 1) (bit_at-pow_same n)
          ∙ sym (ap (λ k. is_at k n) same ∙ is_at-same n))
      | inr other ↦ ap (λ x. x == 1) (bit_at-pow_other n j other) ∙ sym (is_at-other j n other)
    ]

-- a word that is written
pub has-set_same : (words : List ℕ) (i v k : ℕ) → i < length words → k / 64 ≡ i
    → has (set words i v) k ≡ is_set v (k % 64)
has-set_same words i v k l e = ap (λ w. is_set w (k % 64)) (ap (λ n. get_or (set words i v) n 0) e
    ∙ get_or-set_same words i v 0 l)

pub has-set_other : (words : List ℕ) (i v k : ℕ) → k / 64 ≢ i → has (set words i v) k ≡ has words k
has-set_other words i v k e = ap (λ w. is_set w (k % 64)) (get_or-set_other words i (k / 64) v 0 e)

-- the place within its word
at_low : (k at : ℕ) → k / 64 ≡ at / 64 → is_at (k % 64) (at % 64) ≡ is_at k at
at_low k at e =
    elim (cases_eq k at) [
      | inl same ↦ ap (λ n. is_at (n % 64) (at % 64)) same
          ∙ (is_at-same (at % 64) ∙ sym (ap (λ n. is_at n at) same ∙ is_at-same at))
      | inr other ↦ is_at-other (k % 64) (at % 64) (λ low. other (omega arith)) ∙ sym (is_at-other k at other)
    ]

none_more : (b t : Bool) → b ≡ (b || (false && t))
none_more true t = refl
none_more false t = refl

-- a place that is added where the test says so
pub has-put : (words : List ℕ) (at v : ℕ) (t : Bool) → at / 64 < length words
    → ((j : ℕ) → is_set v j ≡ (is_set (get_or words (at / 64) 0) j || (t && is_set (2 ^ (at % 64)) j)))
    → (k : ℕ) → has (set words (at / 64) v) k ≡ (has words k || (is_at k at && t))
has-put words at v t l each k =
    elim (cases_eq (k / 64) (at / 64)) [
      | inl same ↦
          has-set_same words (at / 64) v k l same
          ∙ (each (k % 64)
          ∙ (ap (λ b. is_set (get_or words (at / 64) 0) (k % 64) || (t && b)) (is_set-pow (at % 64) (k % 64)
          ∙ at_low k at same)
          ∙ (ap (λ i. is_set (get_or words i 0) (k % 64) || (t && is_at k at)) (sym same) ∙ swap_last (has words k) t
          (is_at k at))))
      | inr other ↦ has-set_other words (at / 64) v k other
          ∙ (none_more (has words k) t ∙ ap (λ b. has words k || (b && t))
          (sym (is_at-other k at (λ e. other (ap (λ n. n / 64) e)))))
    ]
  where
    swap_last : (a b c : Bool) → (a || (b && c)) ≡ (a || (c && b))
    swap_last a b c = grind arith
