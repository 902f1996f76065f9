-- The search for the matches that are replaced.
use Rattle.std.proofs.Common.{◌≡◌, ℕ, zero, suc, ◌+◌, ◌≤◌, ◌<◌, inl, inr, true, false, List, [], ◌∷◌, length, Option}
use Rattle.std.proofs.Common.{Some, None, arith}
use Rattle.std.proofs.lemmas.Bool.Decides.{nat_tests}
use Rattle.awk_ere.specs.Pattern.{Pattern, empty, bytes, start, finish, cat, alt, repeat, Chain, Matches}
use Rattle.awk_ere.specs.Spelled.{Finds}
use Rattle.awk_lib.specs.Replacing.{next_from, is_passed, AllFrom, behind, no_more, passed, then_one}
use Rattle.awk_lib.specs.Seeking.{IsNextMatch}

chain_le : (R : ℕ → ℕ → Type 0) → ((i j : ℕ) → R i j → i ≤ j) → (n i j : ℕ) → Chain R n i j → i ≤ j
chain_le R step zero i j e = omega arith
chain_le R step (suc n) i j (k, first, rest) = omega (arith, step i k first, chain_le R step n k j rest)

match_le : (s : List ℕ) (p : Pattern) (i j : ℕ) → Matches s p i j → i ≤ j
match_le s empty i j e = omega arith
match_le s (bytes test) i j m = omega (arith, m.2)
match_le s start i j m = omega (arith, m.1)
match_le s finish i j m = omega (arith, m.1)
match_le s (cat p q) i j (k, a, b) = omega (arith, match_le s p i k a, match_le s q k j b)
match_le s (alt p q) i j (inl m) = match_le s p i j m
match_le s (alt p q) i j (inr m) = match_le s q i j m
match_le s (repeat p least most) i j (n, low, high, chain) = chain_le (Matches s p) (match_le s p) n i j chain

-- where a match that is found stands
pub record Stands (text : List ℕ) (from i j : ℕ) : Type 0 where
  pub after : from ≤ i
  pub ordered : i ≤ j
  pub inside : j ≤ length text

pub stands : (source text : List ℕ) (from i j : ℕ) → Finds source text from (Some (i, j)) → Stands text from i j
stands source text from i j (p, is, best) = record {
  after = best.after;
  ordered = match_le text p i j best.matches;
  inside = best.within;
}

-- the search goes on behind the start of the match, and not before its end
pub record Past (i j next : ℕ) : Type 0 where
  pub behind : i < next
  pub least : j ≤ next
  pub most : next ≤ j + 1

pub past : (i j : ℕ) → i ≤ j → Past i j (next_from (i, j))
past i j le = record {
  behind = grind (arith, nat_tests);
  least = grind (arith, nat_tests);
  most =
      grind (arith, nat_tests);
}

-- the search has come from one place to another, and nothing is replaced between
pub record Reaches (source text : List ℕ) (from : ℕ) (last : Option ℕ) (at : ℕ) : Type 0 where
  pub low : from ≤ at
  pub leads : (rest : List (ℕ × ℕ)) → AllFrom source text at last rest → AllFrom source text from last rest

pub reaches_begin : (source text : List ℕ) (from : ℕ) (last : Option ℕ) → Reaches source text from last from
reaches_begin source text from last = record { low = omega arith; leads = λ rest h. h }

module _ (source text : List ℕ) (from : ℕ) (last : Option ℕ) (at : ℕ) (r : Reaches source text from last at) where
  pub reaches_on : (i j : ℕ) → Finds source text at (Some (i, j)) → is_passed last (i, j) ≡ true
      → Reaches source text from last (next_from (i, j))
  reaches_on i j found is =
      let there = stands source text at i j found in
      let behind = past i j there.ordered in
      record {
        low = omega (arith, r.low, there.after, behind.behind);
        leads = λ rest h. r.leads rest (passed at last (i, j) rest found is h);
      }

  pub reaches_none : Finds source text at None → IsNextMatch source text from last None
  reaches_none found = r.leads [] (no_more at last found)

  pub reaches_end : length text < at → IsNextMatch source text from last None
  reaches_end lt = r.leads [] (behind at last lt)

  pub reaches_one : (i j : ℕ) → Finds source text at (Some (i, j)) → is_passed last (i, j) ≡ false
      → IsNextMatch source text from last (Some (i, j))
  reaches_one i j found is =
      let there = stands source text at i j found in
      record {
        after = omega (arith, r.low, there.after);
        ordered = there.ordered;
        inside = there.inside;
        leads = λ rest h. r.leads ((i, j) ∷ rest) (then_one at last (i, j) rest found is h);
      }
