-- The best match of a pattern, and of its alternation with a newline.
use Rattle.std.proofs.Common.{◌≡◌, ℕ, zero, suc, ◌+◌, ◌≤◌, ◌<◌, ◌⊎◌, true, List, length, min, max, None, refl, inl, inr}
use Rattle.std.proofs.Common.{arith}
use Rattle.std.proofs.Common.{subst}
use Rattle.std.proofs.lemmas.Bool.{cases_lt}
use Rattle.awk_ere.specs.Pattern.{Pattern, empty, bytes, start, finish, cat, alt, repeat, Chain, Matches}
use Rattle.awk_ere.specs.Best.{Best, IsBest}
use Rattle.awk_fields.specs.Fields.{separating}
use Rattle.memchr.specs.Find.{Nowhere, Passes, is_byte}

chain_le : (R : ℕ → ℕ → Type 0) → ((i j : ℕ) → R i j → i ≤ j) → (n i j : ℕ) → Chain R n i j → i ≤ j
chain_le R step zero i j e = omega arith
chain_le R step (suc n) i j (k, first, rest) = omega (arith, step i k first, chain_le R step n k j rest)

-- a match ends where it begins or behind
pub match_le : (s : List ℕ) (p : Pattern) (i j : ℕ) → Matches s p i j → i ≤ j
match_le s empty i j e = omega arith
match_le s (bytes test) i j m = omega (arith, m.2)
match_le s start i j m = omega (arith, m.1)
match_le s finish i j m = omega (arith, m.1)
match_le s (cat p q) i j (k, a, b) = omega (arith, match_le s p i k a, match_le s q k j b)
match_le s (alt p q) i j (inl m) = match_le s p i j m
match_le s (alt p q) i j (inr m) = match_le s q i j m
match_le s (repeat p least most) i j (n, low, high, chain) = chain_le (Matches s p) (match_le s p) n i j chain

-- the newlines of a text
abbrev pub Newline : List ℕ → ℕ → Type 0
Newline s k = Passes (is_byte 10) s k

-- a best match from a place on is the best from each later place on that it doesn't begin before
pub later_best : (s : List ℕ) (p : Pattern) (from i j at : ℕ) → IsBest s p from i j → from ≤ at → at ≤ i
    → IsBest s p at i j
later_best s p from i j at best after before =
    record {
      after = before;
      within = best.within;
      matches = best.matches;
      leftmost = λ k l h inside m. best.leftmost k l (omega arith) inside m;
      longest = best.longest;
    }

pub later_none : (s : List ℕ) (p : Pattern) (from at : ℕ) → Best s p from None → from ≤ at → Best s p at None
later_none s p from at none after i j h inside m = none i j (omega arith) inside m

module _ (s : List ℕ) (p : Pattern) (from : ℕ) where
  -- no newline either
  pub none_either : Best s p from None → Nowhere (Newline s) from (length s) → Best s (separating true p) from None
  none_either none no_newline i j after inside (inl m) = none i j after inside m
  none_either none no_newline i j after inside (inr m) = no_newline i after m.0 m.1

  -- no newline up to the match's start
  pub match_first : (i j : ℕ) → IsBest s p from i j → Nowhere (Newline s) from (min (length s) (i + 1))
      → IsBest s (separating true p) from i j
  match_first i j best no_newline =
      record {
        after = best.after;
        within = best.within;
        matches = inl best.matches;
        leftmost = leftmost;
        longest = longest;
      }
    where
      leftmost : (k l : ℕ) → from ≤ k → l ≤ length s → Matches s (separating true p) k l → i ≤ k
      leftmost k l after inside (inl m) = best.leftmost k l after inside m
      leftmost k l after inside (inr m) =
          elim (cases_lt k i) [ inl lt ↦ absurd (no_newline k after (omega (arith, m.0)) m.1) | inr ge ↦ ge ]

      longest : (l : ℕ) → l ≤ length s → Matches s (separating true p) i l → l ≤ j
      longest l inside (inl m) = best.longest l inside m
      longest l inside (inr m) = absurd (no_newline i best.after (omega (arith, m.0)) m.1)

  -- a newline before each match
  pub newline_first : (at : ℕ) → from ≤ at → at < length s → Newline s at → Nowhere (Newline s) from at
      → ((k l : ℕ) → from ≤ k → l ≤ length s → Matches s p k l → at < k) → IsBest s (separating true p) from at (at + 1)
  newline_first at after inside is none behind =
      record {
        after = after;
        within = omega arith;
        matches = inr (inside, is, refl);
        leftmost = leftmost;
        longest = longest;
      }
    where
      leftmost : (k l : ℕ) → from ≤ k → l ≤ length s → Matches s (separating true p) k l → at ≤ k
      leftmost k l low high (inl m) = omega (arith, behind k l low high m)
      leftmost k l low high (inr m) = elim (cases_lt k at) [ inl lt ↦ absurd (none k low lt m.1) | inr ge ↦ ge ]

      longest : (l : ℕ) → l ≤ length s → Matches s (separating true p) at l → l ≤ at + 1
      longest l high (inl m) = absurd (omega (arith, behind at l after high m))
      longest l high (inr m) = omega (arith, m.2)

  -- a newline where the match begins
  pub newline_at : (i j : ℕ) → i < length s → Newline s i → Nowhere (Newline s) from i → IsBest s p from i j
      → IsBest s (separating true p) from i (max j (i + 1))
  newline_at i j inside is none best =
      record {
        after = best.after;
        within = omega (arith, best.within);
        matches = longer (cases_lt j (i + 1));
        leftmost = leftmost;
        longest = longest;
      }
    where
      longer : (j < i + 1) ⊎ (i + 1 ≤ j) → Matches s (separating true p) i (max j (i + 1))
      longer (inl lt) = inr (inside, is, omega arith)
      longer (inr ge) = let e : j ≡ max j (i + 1) = omega arith in inl (subst (Matches s p i) e best.matches)

      leftmost : (k l : ℕ) → from ≤ k → l ≤ length s → Matches s (separating true p) k l → i ≤ k
      leftmost k l low high (inl m) = best.leftmost k l low high m
      leftmost k l low high (inr m) = elim (cases_lt k i) [ inl lt ↦ absurd (none k low lt m.1) | inr ge ↦ ge ]

      longest : (l : ℕ) → l ≤ length s → Matches s (separating true p) i l → l ≤ max j (i + 1)
      longest l high (inl m) = omega (arith, best.longest l high m)
      longest l high (inr m) = omega (arith, m.2)
