-- Where words begin and end, as bits.
use Rattle.std.proofs.Common.{◌≡◌, ℕ, zero, suc, ◌+◌, ◌-◌, ◌*◌, ◌%◌, ◌^◌, ◌<◌, ◌≤◌, Bool, true, false, not, cond, min}
use Rattle.std.proofs.Common.{List, [], ◌∷◌, map, length, take, drop, refl, sym, ap, ◌∙◌, arith}
use native.Mathlib.Nat.{mod-one, zero-mod}
use lib.Bits.{bit_or, bit_xor, or_zero_r}
use lib.Lanes.{mask_l}
use mir.Val.{bool_byte}
use Rattle.std.specs.List.{prefix_len, position_or_len}
use Rattle.awk_fields.specs.Edges.{changes, differs}
use Rattle.awk_fields.proofs.Bits.{pair, or_pair, xor_pair, pair_mod}

module _ (p : ℕ → Bool) where
  pub changes_mask : (r : ℕ) (before : Bool) (s : List ℕ)
      → bit_xor (mask_l (map p (take r s))) (pair before (mask_l (map p (take r s))) % 2 ^ r)
      ≡ mask_l (changes p r before s)
  changes_mask zero before s = mod-one (pair before 0)
  changes_mask (suc r) true [] = pair_mod true 0 r ∙ ap (pair true) (zero-mod (2 ^ r))
  changes_mask (suc r) false [] = pair_mod false 0 r ∙ ap (pair false) (zero-mod (2 ^ r))
  changes_mask (suc r) before (x ∷ s) =
      let m = mask_l (map p (take r s)) in
      ap (bit_xor (pair (p x) m)) (pair_mod before (pair (p x) m) r) ∙ xor_pair (p x) before m (pair (p x) m % 2 ^ r)
      ∙ ap (pair (differs (p x) before)) (changes_mask r (p x) s)

  pub length_changes : (r : ℕ) (before : Bool) (s : List ℕ) → length (changes p r before s) ≤ r
  length_changes zero before s = omega arith
  length_changes (suc r) true [] = omega arith
  length_changes (suc r) false [] = omega arith
  length_changes (suc r) before (x ∷ s) = omega (arith, length_changes r (p x) s)

-- the number that the code computes
bool_pair : (before : Bool) → bool_byte before ≡ pair before 0
bool_pair true = refl
bool_pair false = refl

pub changes_number : (p : ℕ → Bool) (before : Bool) (s : List ℕ) (m : ℕ) → m ≡ mask_l (map p (take 64 s))
    → bit_xor m (bit_or (m * 2 % 2 ^ 64) (bool_byte before)) ≡ mask_l (changes p 64 before s)
changes_number p before s m m_is =
    let twice : m * 2 ≡ pair false m = omega arith in
    let shifted : bit_or (m * 2 % 2 ^ 64) (bool_byte before) ≡ pair before m % 2 ^ 64 =
    (λ i. bit_or ((ap (λ n. n % 2 ^ 64) twice ∙ pair_mod false m 63) i) (bool_pair before i)) ∙ or_pair false before
    (m % 2 ^ 63) 0 ∙ ap (pair before) (or_zero_r (m % 2 ^ 63)) ∙ sym (pair_mod before m 63) in
    ap (bit_xor m) shifted ∙ (λ i. bit_xor (m_is i) (pair before (m_is i) % 2 ^ 64)) ∙ changes_mask p 64 before s

back : (j : ℕ) → 1 + j + 1 ≡ suc (j + 1)
back j = omega arith

module _ (p : ℕ → Bool) where
  -- ---- between words: the bit of the next word's first byte, or of the text's end
  pub record Begins (r : ℕ) (s : List ℕ) (bits : List Bool) (j : ℕ) : Type 0 where
    pub place : prefix_len not bits ≡ j
    pub near : j < r
    pub rest : drop (j + 1) bits ≡ changes p (r - (j + 1)) false (drop (j + 1) s)

  begins_by : (b : Bool) (r : ℕ) (x : ℕ) (s : List ℕ) → 0 < pair (differs b true) (mask_l (changes p r b s))
      → (0 < mask_l (changes p r true s) → Begins r s (changes p r true s) (prefix_len p s))
      → Begins (suc r) (x ∷ s) (differs b true ∷ changes p r b s) (cond b (1 + prefix_len p s) 0)
  begins_by true r x s some more =
      let ih = more (omega arith) in
      let j = prefix_len p s in
      let left : r - (j + 1) ≡ suc r - (1 + j + 1) = omega arith in
      record {
        place = ap (λ n. 1 + n) ih.place;
        near = omega (arith, ih.near);
        rest = ap (λ n. drop n (false ∷ changes p r true s)) (back j) ∙ ih.rest
            ∙ (λ i. changes p (left i) false (drop (sym (back j) i) (x ∷ s)));
      }
  begins_by false r x s some more =
      let left : r ≡ suc r - (0 + 1) = omega arith in
      record { place = refl; near = omega arith; rest = ap (λ n. changes p n false s) left }

  pub begins : (r : ℕ) (s : List ℕ) → 0 < mask_l (changes p r true s) → Begins r s (changes p r true s) (prefix_len p s)
  begins zero s some = absurd (omega arith)
  begins (suc r) [] some = record { place = refl; near = omega arith; rest = sym (nothing_left (suc r - (0 + 1))) }
    where
      nothing_left : (n : ℕ) → changes p n false [] ≡ []
      nothing_left zero = refl
      nothing_left (suc n) = refl
  begins (suc r) (x ∷ s) some = begins_by (p x) r x s some (begins r s)

  no_begin_by : (b : Bool) (r : ℕ) (s : List ℕ) → pair (differs b true) (mask_l (changes p r b s)) ≡ 0
      → (mask_l (changes p r true s) ≡ 0 → r ≤ prefix_len p s) → suc r ≤ cond b (1 + prefix_len p s) 0
  no_begin_by true r s none more = omega (arith, more (omega arith))
  no_begin_by false r s none more = absurd (omega arith)

  pub no_begin : (r : ℕ) (s : List ℕ) → mask_l (changes p r true s) ≡ 0 → r ≤ prefix_len p s
  no_begin zero s none = omega arith
  no_begin (suc r) [] none = absurd (omega arith)
  no_begin (suc r) (x ∷ s) none = no_begin_by (p x) r s none (no_begin r s)

  -- ---- in a word: the bit of the byte behind it
  pub record Ends (r : ℕ) (s : List ℕ) (bits : List Bool) (j : ℕ) : Type 0 where
    pub place : prefix_len not bits ≡ j
    pub near : j < r
    pub inside : j < length s
    pub rest : drop (j + 1) bits ≡ changes p (r - (j + 1)) true (drop (j + 1) s)

  ends_by : (b : Bool) (r : ℕ) (x : ℕ) (s : List ℕ) → 0 < pair (differs b false) (mask_l (changes p r b s))
      → (0 < mask_l (changes p r false s) → Ends r s (changes p r false s) (position_or_len p s))
      → Ends (suc r) (x ∷ s) (differs b false ∷ changes p r b s) (cond (not b) (1 + position_or_len p s) 0)
  ends_by true r x s some more =
      let left : r ≡ suc r - (0 + 1) = omega arith in
      record { place = refl; near = omega arith; inside = omega arith; rest = ap (λ n. changes p n true s) left }
  ends_by false r x s some more =
      let ih = more (omega arith) in
      let j = position_or_len p s in
      let left : r - (j + 1) ≡ suc r - (1 + j + 1) = omega arith in
      record {
        place = ap (λ n. 1 + n) ih.place;
        near = omega (arith, ih.near);
        inside = omega (arith, ih.inside);
        rest = ap (λ n. drop n (false ∷ changes p r false s)) (back j) ∙ ih.rest
            ∙ (λ i. changes p (left i) true (drop (sym (back j) i) (x ∷ s)));
      }

  pub ends : (r : ℕ) (s : List ℕ) → 0 < mask_l (changes p r false s)
      → Ends r s (changes p r false s) (position_or_len p s)
  ends zero s some = absurd (omega arith)
  ends (suc r) [] some = absurd (omega arith)
  ends (suc r) (x ∷ s) some = ends_by (p x) r x s some (ends r s)

  no_end_by : (b : Bool) (r : ℕ) (s : List ℕ) → pair (differs b false) (mask_l (changes p r b s)) ≡ 0
      → (mask_l (changes p r false s) ≡ 0 → min r (length s) ≤ position_or_len p s)
      → min (suc r) (suc (length s)) ≤ cond (not b) (1 + position_or_len p s) 0
  no_end_by true r s none more = absurd (omega arith)
  no_end_by false r s none more = omega (arith, more (omega arith))

  pub no_end : (r : ℕ) (s : List ℕ) → mask_l (changes p r false s) ≡ 0 → min r (length s) ≤ position_or_len p s
  no_end zero s none = omega arith
  no_end (suc r) [] none = omega arith
  no_end (suc r) (x ∷ s) none = no_end_by (p x) r s none (no_end r s)

  -- ---- the bits of the bytes themselves
  pub record Meets (r : ℕ) (s : List ℕ) (bits : List Bool) (j : ℕ) : Type 0 where
    pub place : prefix_len not bits ≡ j
    pub near : j < r
    pub inside : j < length s
    pub rest : drop (j + 1) bits ≡ map p (take (r - (j + 1)) (drop (j + 1) s))

  meets_by : (b : Bool) (r : ℕ) (x : ℕ) (s : List ℕ) → 0 < pair b (mask_l (map p (take r s)))
      → (0 < mask_l (map p (take r s)) → Meets r s (map p (take r s)) (position_or_len p s))
      → Meets (suc r) (x ∷ s) (b ∷ map p (take r s)) (cond (not b) (1 + position_or_len p s) 0)
  meets_by true r x s some more =
      let left : r ≡ suc r - (0 + 1) = omega arith in
      record { place = refl; near = omega arith; inside = omega arith; rest = ap (λ n. map p (take n s)) left }
  meets_by false r x s some more =
      let ih = more (omega arith) in
      let j = position_or_len p s in
      let left : r - (j + 1) ≡ suc r - (1 + j + 1) = omega arith in
      record {
        place = ap (λ n. 1 + n) ih.place;
        near = omega (arith, ih.near);
        inside = omega (arith, ih.inside);
        rest = ap (λ n. drop n (false ∷ map p (take r s))) (back j) ∙ ih.rest
            ∙ (λ i. map p (take (left i) (drop (sym (back j) i) (x ∷ s))));
      }

  pub meets : (r : ℕ) (s : List ℕ) → 0 < mask_l (map p (take r s)) → Meets r s (map p (take r s)) (position_or_len p s)
  meets zero s some = absurd (omega arith)
  meets (suc r) [] some = absurd (omega arith)
  meets (suc r) (x ∷ s) some = meets_by (p x) r x s some (meets r s)

  no_meet_by : (b : Bool) (r : ℕ) (s : List ℕ) → pair b (mask_l (map p (take r s))) ≡ 0
      → (mask_l (map p (take r s)) ≡ 0 → min r (length s) ≤ position_or_len p s)
      → min (suc r) (suc (length s)) ≤ cond (not b) (1 + position_or_len p s) 0
  no_meet_by true r s none more = absurd (omega arith)
  no_meet_by false r s none more = omega (arith, more (omega arith))

  pub no_meet : (r : ℕ) (s : List ℕ) → mask_l (map p (take r s)) ≡ 0 → min r (length s) ≤ position_or_len p s
  no_meet zero s none = omega arith
  no_meet (suc r) [] none = omega arith
  no_meet (suc r) (x ∷ s) none = no_meet_by (p x) r s none (no_meet r s)
