-- A pattern in which each byte stands for itself is found as a text.
use Rattle.std.proofs.Common.{◌≡◌, ℕ, zero, suc, ◌+◌, ◌-◌, ◌<◌, ◌≤◌, ◌==◌, ◌&&◌, ◌||◌, inl, inr, Bool, true, false}
use Rattle.std.proofs.Common.{cond, List, [], ◌∷◌, ◌++◌, length, drop, get_or, Option, Some, None, refl, sym, ◌∙◌, ap}
use Rattle.std.proofs.Common.{subst, append_assoc, arith}
use Rattle.std.proofs.lemmas.Bool.{cases_lt, eqb-true, eq-eqb}
use Rattle.std.proofs.lemmas.List.{get_or-drop, length-drop}
use Rattle.std.specs.Prelude.{IfSome}
use Rattle.memchr.specs.Find.{OccursAt, FindsNeedle, IsFirst, Nowhere, IsFirstByte, Passes, is_byte}
use Rattle.memchr.specs.Pairs.{IsPairFinderOf, HasPair, reach_of}
use Rattle.memchr.specs.declared.arch.all.packedpair.Finder.{Finder}
use Rattle.awk_ere.specs.Pattern.{Pattern, empty, bytes, cat, Matches}
use Rattle.awk_ere.specs.Best.{Best}
use Rattle.awk_ere.specs.Token as spec
use Rattle.awk_ere.specs.Reading.{Spot, front_at, Leads}
use Rattle.awk_ere.specs.Grammar.{branch, Spells, one_branch, no_piece, then_item, single}
use Rattle.awk_ere.specs.Spelled.{IsPattern, Finds}
use Rattle.awk_ere.specs.Literal.{is_special, IsLiteral, FindsText}
use Rattle.awk_ere.specs.declared.front.Lead.TheVariants.{Sign}

or_off : (x y : Bool) → (x || y) ≡ false → (x ≡ false) × (y ≡ false)
or_off true y e = absurd (cc)
or_off false y e = (refl, e)

and_off : (x y : Bool) → x ≡ false → (x && y) ≡ false
and_off true y e = absurd (cc)
and_off false y e = refl

cond_off : {A : Type 0} (b : Bool) (x y : A) → b ≡ false → cond b x y ≡ y
cond_off b x y e = ap (λ c. cond c x y) e

module _ (o m : Bool) (c : ℕ) where
  plain_sign : is_special c ≡ false → spec.sign o m c ≡ spec.byte c
  unfolding spec.sign
  plain_sign e =
      let n = or_off _ (c == 123) e in
      let l = or_off _ (c == 92) n.0 in let k = or_off _ (c == 91) l.0 in let j = or_off _ (c == 63) k.0 in
      let i = or_off _ (c == 43) j.0 in
      let h = or_off _ (c == 42) i.0 in let g = or_off _ (c == 36) h.0 in let f = or_off _ (c == 94) g.0 in
      let d = or_off _ (c == 124) f.0 in let b = or_off _ (c == 41) d.0 in let a = or_off (c == 46) (c == 40) b.0 in
      cond_off (c == 46) _ _ a.0 ∙ cond_off (c == 40) _ _ a.1 ∙ cond_off (c == 41 && o) _ _ (and_off (c == 41) o b.1)
      ∙ cond_off (c == 124) _ _ d.1
      ∙ cond_off (c == 94) _ _ f.1 ∙ cond_off (c == 36) _ _ g.1 ∙ cond_off (c == 42 && m) _ _ (and_off (c == 42) m h.1)
      ∙ cond_off (c == 43 && m) _ _ (and_off (c == 43) m i.1) ∙ cond_off (c == 63 && m) _ _
      (and_off (c == 63) m j.1)

  plain_lead : is_special c ≡ false → spec.lead m c ≡ Sign
  unfolding spec.lead
  plain_lead e =
      let n = or_off _ (c == 123) e in let l = or_off _ (c == 92) n.0 in let k = or_off _ (c == 91) l.0 in
      cond_off (c == 91) _ _ k.1 ∙ cond_off (c == 92) _ _ l.1 ∙ cond_off (c == 123 && m) _ _ (and_off (c == 123) m n.1)

  plain_front : (s : List ℕ) → is_special c ≡ false → spec.front o m (c ∷ s) ≡ spec.token (spec.byte c) s
  plain_front s e = ap (λ l. spec.led l o m c s) (plain_lead e) ∙ ap (λ t. spec.token t s) (plain_sign e)

-- the pattern p, and then each byte
abbrev then_bytes : Pattern → List ℕ → Pattern
then_bytes p [] = p
then_bytes p (c ∷ cs) = then_bytes (cat p (bytes (λ b. b == c))) cs

abbrev tokens : List ℕ → List spec.Token
tokens [] = []
tokens (c ∷ cs) = spec.byte c ∷ tokens cs

tail_literal : (c : ℕ) (cs : List ℕ) → IsLiteral (c ∷ cs) → IsLiteral cs
tail_literal c cs h = λ i lt. h (suc i) (omega arith)

spot : Bool → List ℕ → Spot
spot m s = record { depth = 0; may_repeat = m; left = s }

literal_leads : (m : Bool) (cs : List ℕ) → IsLiteral cs → (q : Spot)
    × Leads (tokens cs) (record { depth = 0; may_repeat = m; left = cs }) q × (front_at q ≡ spec.finished)
literal_leads m [] h = (record { depth = 0; may_repeat = m; left = [] }, refl, refl)
literal_leads m (c ∷ cs) h =
    let rest = literal_leads true cs (tail_literal c cs h) in
    (rest.0, (cs, plain_front false m c cs (h 0 (omega arith)), rest.1), rest.2)

append_nil : (ts : List spec.Token) → ts ++ [] ≡ ts
append_nil [] = refl
append_nil (t ∷ ts) = ap (λ x. t ∷ x) (append_nil ts)

literal_spells : (ts : List spec.Token) (p : Pattern) (n k : ℕ) (cs : List ℕ) → k ≡ n + length cs → Spells branch ts p n
    → Spells branch (ts ++ tokens cs) (then_bytes p cs) k
literal_spells ts p n k [] is h = subst (λ x. Spells branch x p k) (sym (append_nil ts))
    (subst (λ x. Spells branch ts p x) (let e : n ≡ k = omega arith in e) h)
literal_spells ts p n k (c ∷ cs) is h =
    let q : Pattern = bytes (λ b. b == c) in
    subst (λ x. Spells branch x (then_bytes (cat p q) cs) k) (append_assoc ts (spec.byte c ∷ []) (tokens cs))
    (literal_spells (ts ++ spec.byte c ∷ []) (cat p q) (n + 1) k cs (omega arith)
    (then_item ts (spec.byte c ∷ []) p q n 1 h (single q)))

pub literal_pattern : (s : List ℕ) → IsLiteral s → length s ≤ 4096 → IsPattern s (then_bytes empty s)
literal_pattern s h short = record {
  size = length s;
  spelled =
      let read = literal_leads false s h in (
        tokens s,
        (read.0, read.1, read.2),
        one_branch (tokens s) (then_bytes empty s) (length s)
            (literal_spells [] empty 0 (length s) s (omega arith) no_piece),
      );
  short = short;
  small = omega arith;
}

-- where it matches
pub literal_matches : (s : List ℕ) (p : Pattern) (cs : List ℕ) (i j : ℕ) → Matches s (then_bytes p cs) i j → (k : ℕ)
    × Matches s p i k × (j ≡ k + length cs) × ((t : ℕ) → t < length cs → (k + t < length s)
    × (get_or s (k + t) 0 ≡ get_or cs t 0))
literal_matches s p [] i j m = (j, m, omega arith, λ t lt. absurd (omega arith))
literal_matches s p (c ∷ cs) i j m =
    let y = literal_matches s (cat p (bytes (λ b. b == c))) cs i j m in
    let x = y.1 in
    (x.0, x.1, omega (arith, y.2, x.2.2), λ t lt. at t lt y.0 x.0 x.2.0 x.2.1 x.2.2 y.3) where
      at : (t : ℕ) → t < length (c ∷ cs) → (l k : ℕ) → k < length s → (get_or s k 0 == c) ≡ true → l ≡ k + 1
          → ((u : ℕ) → u < length cs → (l + u < length s) × (get_or s (l + u) 0 ≡ get_or cs u 0)) → (k + t < length s)
          × (get_or s (k + t) 0 ≡ get_or (c ∷ cs) t 0)
      at zero lt l k inside is next rest = (
        omega arith,
        (let e : k + 0 ≡ k = omega arith in
            ap (λ n. get_or s n 0) e ∙ eqb-true _ _ is),
      )
      at (suc u) lt l k inside is next rest =
          let z = rest u (omega arith) in
          let e : k + suc u ≡ l + u = omega arith in
          (omega (arith, z.0), ap (λ n. get_or s n 0) e ∙ z.1)

pub matches_literal : (s : List ℕ) (p : Pattern) (cs : List ℕ) (i j k : ℕ) → Matches s p i k → j ≡ k + length cs
    → ((t : ℕ) → t < length cs → (k + t < length s) × (get_or s (k + t) 0 ≡ get_or cs t 0))
    → Matches s (then_bytes p cs) i j
matches_literal s p [] i j k m is h = (let e : k ≡ j = omega arith in subst (λ x. Matches s p i x) e m)
matches_literal s p (c ∷ cs) i j k m is h =
    let first = h 0 (omega arith) in
    let e : k + 0 ≡ k = omega arith in
    matches_literal s (cat p (bytes (λ b. b == c))) cs i j (k + 1) (
      k,
      m,
      (omega (arith, first.0), eq-eqb _ _ (ap (λ n. get_or s n 0) (sym e) ∙ first.1), refl),
    ) (omega arith)
    (λ t lt. let z = h (suc t) (omega arith) in let f : (k + 1) + t ≡ k + suc t = omega arith in
    (omega (arith, z.0), ap (λ n. get_or s n 0) f ∙ z.1))

module _ (source s : List ℕ) where
  match_occurs : (i j : ℕ) → j ≤ length s → Matches s (then_bytes empty source) i j → OccursAt s source i
  match_occurs i j within m =
      let y = literal_matches s empty source i j m in
      let e : y.0 ≡ i = sym y.1 in
      subst (λ k. OccursAt s source k) e (record { fits = omega (arith, y.2); reads = λ t lt. (y.3 t lt).1 })

  match_end : (i j : ℕ) → Matches s (then_bytes empty source) i j → j ≡ i + length source
  match_end i j m = let y = literal_matches s empty source i j m in omega (arith, y.1, y.2)

  occurs_match : (i j : ℕ) → j ≡ i + length source → OccursAt s source i → Matches s (then_bytes empty source) i j
  occurs_match i j is h = matches_literal s empty source i j i refl is (λ t lt. (omega (arith, h.fits), h.reads t lt))

  text_best : (from : ℕ) (found : Option (ℕ × ℕ)) → FindsText source s from found
      → Best s (then_bytes empty source) from found
  text_best from None h = λ i j after within m. h i after (match_occurs i j within m)
  text_best from (Some x) h = record {
    after = h.0;
    within = omega (arith, h.1.fits, h.2);
    matches = occurs_match x.0 x.1 h.2 h.1;
    leftmost = λ k l after within m. h.3 k after (match_occurs k l within m);
    longest = λ l within m. omega (arith, match_end x.0 l m, h.2);
  }

  literal_finds : (from : ℕ) (found : Option (ℕ × ℕ)) → IsLiteral source → length source ≤ 4096
      → FindsText source s from found → Finds source s from found
  literal_finds from found literal short h = (
    then_bytes empty source,
    literal_pattern source literal short,
    text_best from found h,
  )

  -- the same, by what is kept of the source
  pub literal_found : (kept : Option (List ℕ)) (needle : List ℕ) (from : ℕ) (found : Option (ℕ × ℕ))
      → kept ≡ Some needle → IfSome kept (λ l. (l ≡ source) × IsLiteral source) → length source ≤ 4096
      → FindsText needle s from found → Finds source s from found
  literal_found kept needle from found is told short h =
      let both : (needle ≡ source) × IsLiteral source = subst (λ x. IfSome x (λ l. (l ≡ source) × IsLiteral source)) is
      told in
      literal_finds from found both.1 short (subst (λ x. FindsText x s from found) both.0 h)

-- a search in what follows `from`
module _ (s needle : List ℕ) (from : ℕ) (le : from ≤ length s) where
  occurs_on : (k : ℕ) → OccursAt (drop from s) needle k → OccursAt s needle (from + k)
  occurs_on k h = record {
    fits = omega (arith, h.fits, length-drop from s);
    reads = λ j lt. let e : (from + k) + j ≡ from + (k + j) = omega arith in
        ap (λ n. get_or s n 0) e ∙ sym (get_or-drop from s (k + j) 0) ∙ h.reads j lt;
  }

  occurs_back : (k : ℕ) → from ≤ k → OccursAt s needle k → OccursAt (drop from s) needle (k - from)
  occurs_back k after h = record {
    fits = omega (arith, h.fits, length-drop from s);
    reads = λ j lt. let e : from + ((k - from) + j) ≡ k + j = omega arith in
        get_or-drop from s ((k - from) + j) 0 ∙ ap (λ n. get_or s n 0) e ∙ h.reads j lt;
  }

  pub text_none : FindsNeedle (drop from s) needle 0 None → FindsText needle s from None
  text_none h = λ k after occurs. let x = occurs_back k after occurs in
      h (k - from) (omega arith) (omega (arith, x.fits)) x

  pub text_some : (k start end : ℕ) → start ≡ from + k → end ≡ start + length needle
      → FindsNeedle (drop from s) needle 0 (Some k) → FindsText needle s from (Some (start, end))
  text_some k start end is are h = (
    omega arith,
    subst (λ x. OccursAt s needle x) (sym is) (occurs_on k h.1),
    are,
    λ l after occurs. elim (cases_lt l start) [
      | inl less ↦ absurd (let x = occurs_back l after occurs in h.0.before (l - from) (omega arith) (omega arith) x)
      | inr ge ↦ ge
    ],
  )

  pub text_fits : (k : ℕ) → FindsNeedle (drop from s) needle 0 (Some k) → from + k + length needle ≤ length s
  text_fits k h = omega (arith, h.1.fits, length-drop from s)

-- a search for one byte
module _ (s needle : List ℕ) (one : length needle ≡ 1) where
  occurs_passes : (k : ℕ) → OccursAt s needle k → Passes (is_byte (get_or needle 0 0)) s k
  occurs_passes k h =
      let e : k ≡ k + 0 = omega arith in
      eq-eqb _ _ (ap (λ n. get_or s n 0) e ∙ h.reads 0 (omega arith))

  passes_occurs : (k : ℕ) → k < length s → Passes (is_byte (get_or needle 0 0)) s k → OccursAt s needle k
  passes_occurs k inside h = record { fits = omega arith; reads = reads } where
    reads : (j : ℕ) → j < length needle → get_or s (k + j) 0 ≡ get_or needle j 0
    reads zero lt = let e : k + 0 ≡ k = omega arith in ap (λ n. get_or s n 0) e ∙ eqb-true _ _ h
    reads (suc j) lt = absurd (omega arith)

  pub one_byte : (found : Option ℕ) → IsFirstByte (is_byte (get_or needle 0 0)) s found → FindsNeedle s needle 0 found
  one_byte None h = λ k low high occurs. h k low (omega (arith, occurs.fits)) (occurs_passes k occurs)
  one_byte (Some at) h = (
    record {
      low = h.0.low;
      high = omega (arith, h.0.high);
      before = λ k low less occurs. h.0.before k low less
          (occurs_passes k occurs);
    },
    passes_occurs at h.0.high h.1,
  )

-- a search by two bytes of the needle
module _ (f : Finder) (s needle : List ℕ) (of : IsPairFinderOf f needle) where
  pair_stands : (k : ℕ) → OccursAt s needle k → HasPair f s k
  pair_stands k h = record {
    first = h.reads f.pair.index1 of.pair.first ∙ sym of.byte1;
    second = h.reads f.pair.index2 of.pair.second ∙ sym of.byte2;
  }

  pub pair_before : (at : ℕ) → IsFirst (HasPair f s) 0 (length s - reach_of f) (Some at)
      → Nowhere (OccursAt s needle) 0 at
  pair_before at h = λ k low less occurs. h.0.before k low less (pair_stands k occurs)

  pub pair_inside : (at : ℕ) → IsFirst (HasPair f s) 0 (length s - reach_of f) (Some at) → at ≤ length s
  pair_inside at h = omega (arith, h.0.high)

-- where it occurs from `at` on, and nowhere before
module _ (s needle : List ℕ) (at : ℕ) (le : at ≤ length s) (before : Nowhere (OccursAt s needle) 0 at) where
  pub found_none : FindsNeedle (drop at s) needle 0 None → FindsNeedle s needle 0 None
  found_none h = λ k low high occurs. elim (cases_lt k at) [
    | inl less ↦ before k low less occurs
    | inr ge ↦ let x = occurs_back s needle at le k ge occurs in h (k - at) (omega arith) (omega (arith, x.fits)) x
  ]

  pub found_further : (further : ℕ) → FindsNeedle (drop at s) needle 0 (Some further)
      → FindsNeedle s needle 0 (Some (at + further))
  found_further further h =
      let there = occurs_on s needle at le further h.1 in (
        record {
          low = omega arith;
          high = omega (arith, there.fits);
          before = λ k low less occurs. elim (cases_lt k at) [
            | inl l ↦ before k low l occurs
            | inr ge ↦ let x = occurs_back s needle at le k ge occurs in
                h.0.before (k - at) (omega arith) (omega arith) x
          ];
        },
        there,
      )
