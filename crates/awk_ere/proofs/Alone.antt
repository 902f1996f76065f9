-- A text spells one pattern, and a search for it has one answer.
use Rattle.std.proofs.Common.{◌≡◌, ℕ, ◌≤◌, Bool, true, false, length, refl, sym, subst, arith}
use Rattle.std.specs.Prelude.{Some, None, IsTrue, ◌↔◌}
use Rattle.awk_ere.specs.Best.{Best}
use Rattle.awk_ere.specs.Laws.{OneReading, OnePattern, OneMatch, OneFinding, OneTest}
use Rattle.awk_ere.specs.Pattern.{Matches}
use Rattle.awk_ere.proofs.Unique.{one_spelling}

pub one_reading : OneReading
one_reading s p q n m h g = one_spelling s p q n m h g

pub one_pattern : OnePattern
one_pattern s p q h g = (one_spelling s p q h.size g.size h.spelled g.spelled).0

pub one_match : OneMatch
one_match s p from None None h g = refl
one_match s p from None (Some m) h g = absurd (h m.0 m.1 g.after g.within g.matches)
one_match s p from (Some m) None h g = absurd (g m.0 m.1 h.after h.within h.matches)
one_match s p from (Some m) (Some n) h g =
    let a : m.0 ≤ n.0 = h.leftmost n.0 n.1 g.after g.within g.matches in
    let b : n.0 ≤ m.0 = g.leftmost m.0 m.1 h.after h.within h.matches in
    let e : m.0 ≡ n.0 = omega arith in
    let c : m.1 ≤ n.1 = g.longest m.1 h.within (subst (λ i. Matches s p i m.1) e h.matches) in
    let d : n.1 ≤ m.1 = h.longest n.1 g.within (subst (λ i. Matches s p i n.1) (sym e) g.matches) in
    let f : m.1 ≡ n.1 = omega arith in
    λ i. Some (e i, f i)

pub one_finding : OneFinding
one_finding source s from a b (p, is, best) (q, again, other) =
    one_match s p from a b best (subst (λ x. Best s x from b) (one_pattern source q p again is) other)

-- two tests of one thing agree
one_side : (A : Type 0) (b c : Bool) → IsTrue b ↔ A → IsTrue c ↔ A → b ≡ c
one_side A true true h g = refl
one_side A false false h g = refl
one_side A true false h g = absurd (let x = g.1 (h.0 refl) in cc)
one_side A false true h g = absurd (let x = h.1 (g.0 refl) in cc)

pub one_test : OneTest
one_test source s b c (p, is, h) (q, again, g) =
    one_side _ b c h (subst (λ x. IsTrue c ↔ ((i : ℕ) × (j : ℕ) × (j ≤ length s) × Matches s x i j))
    (one_pattern source q p again is) g)
