-- Patterns that match the same.
use Rattle.std.proofs.Common.{◌≡◌, ℕ, zero, suc, ◌+◌, ◌≤◌, ◌⊎◌, inl, inr, Bool, true, false, ◌&&◌, ◌==◌, List, Option}
use Rattle.std.proofs.Common.{Some, None, option_map, refl, sym, ◌∙◌, ap, subst, arith}
use Rattle.std.proofs.lemmas.Bool.{cases_eq, eqb-true, leb-true}
use Rattle.awk_ere.specs.Same.{IsSame}
use Rattle.awk_ere.specs.Tree.{is_simple, is_exactly, merged}
use Rattle.awk_ere.specs.Pattern.{Pattern, empty, cat, alt, repeat, Chain, AtMost, Matches}

pub chain_joined : (R : ℕ → ℕ → Type 0) (n m i j k : ℕ) → Chain R n i j → Chain R m j k → (c : ℕ) × (c ≡ n + m)
    × Chain R c i k
chain_joined R zero m i j k is rest = (m, omega arith, subst (λ x. Chain R m x k) (sym is) rest)
chain_joined R (suc n) m i j k (l, one, chain) rest =
    let y = chain_joined R n m l j k chain rest in (suc y.0, omega (arith, y.1), (l, one, y.2))

-- a star of a star
stars : (s : List ℕ) (p : Pattern) (n i j : ℕ) → Chain (Matches s (repeat p 0 None)) n i j → (c : ℕ)
    × Chain (Matches s p) c i j
stars s p zero i j is = (0, is)
stars s p (suc n) i j (l, one, chain) =
    let y = stars s p n l j chain in
    let z = chain_joined (Matches s p) one.0 y.0 i l j one.3 y.1 in (z.0, z.2)

pub star_star : (p : Pattern) → IsSame (repeat (repeat p 0 None) 0 None) (repeat p 0 None)
star_star p = record {
  to = λ s i j m. let y = stars s p m.0 i j m.3 in (y.0, omega arith, tt, y.1);
  from = λ s i j m. (1, omega arith, tt, (j, m, refl));
}

-- a star of something that may be absent
options : (s : List ℕ) (p : Pattern) (n i j : ℕ) → Chain (Matches s (repeat p 0 (Some 1))) n i j → (c : ℕ)
    × Chain (Matches s p) c i j
options s p zero i j is = (0, is)
options s p (suc n) i j (l, one, chain) =
    let y = options s p n l j chain in
    let z = chain_joined (Matches s p) one.0 y.0 i l j one.3 y.1 in (z.0, z.2)

singles : (s : List ℕ) (p : Pattern) (n i j : ℕ) → Chain (Matches s p) n i j
    → Chain (Matches s (repeat p 0 (Some 1))) n i j
singles s p zero i j is = is
singles s p (suc n) i j (l, one, chain) = (l, (1, omega arith, omega arith, (l, one, refl)), singles s p n l j chain)

pub star_option : (p : Pattern) → IsSame (repeat (repeat p 0 (Some 1)) 0 None) (repeat p 0 None)
star_option p = record {
  to = λ s i j m. let y = options s p m.0 i j m.3 in (y.0, omega arith, tt, y.1);
  from = λ s i j m. (m.0, omega arith, tt, singles s p m.0 i j m.3);
}

-- either a pattern or nothing
pub alt_empty : (p : Pattern) → IsSame (alt p empty) (repeat p 0 (Some 1))
alt_empty p = record {
  to = λ s i j m. elim m [
    | inl h ↦ (1, omega arith, omega arith, (j, h, refl))
    | inr is ↦ (
      0,
      omega arith,
      omega arith,
      is,
    )
  ];
  from = λ s i j m. from_option s i j m.0 m.2 m.3;
} where
  from_option : (s : List ℕ) (i j n : ℕ) → n ≤ 1 → Chain (Matches s p) n i j → Matches s (alt p empty) i j
  from_option s i j zero le is = inr is
  from_option s i j (suc zero) le (k, h, is) = inl (subst (λ x. Matches s p i x) is h)
  from_option s i j (suc (suc n)) le chain = absurd (omega arith)

-- once
pub once : (p : Pattern) → IsSame (repeat p 1 (Some 1)) p
once p = record {
  to = λ s i j m. to_one s i j m.0 m.1 m.2 m.3;
  from = λ s i j m. (1, omega arith, omega arith, (j, m, refl));
} where
  to_one : (s : List ℕ) (i j n : ℕ) → 1 ≤ n → n ≤ 1 → Chain (Matches s p) n i j → Matches s p i j
  to_one s i j zero le ge chain = absurd (omega arith)
  to_one s i j (suc zero) le ge (k, h, is) = subst (λ x. Matches s p i x) is h
  to_one s i j (suc (suc n)) le ge chain = absurd (omega arith)

-- equal on every text
pub same_refl : (p : Pattern) → IsSame p p
same_refl p = record { to = λ s i j m. m; from = λ s i j m. m }

pub same_trans : (p q r : Pattern) → IsSame p q → IsSame q r → IsSame p r
same_trans p q r h g = record {
  to = λ s i j m. g.to s i j (h.to s i j m);
  from =
      λ s i j m. h.from s i j (g.from s i j m);
}

pub same_back : (p q : Pattern) → IsSame p q → IsSame q p
same_back p q h = record { to = h.from; from = h.to }

pub same_cat : (p q a b : Pattern) → IsSame p a → IsSame q b → IsSame (cat p q) (cat a b)
same_cat p q a b h g = record {
  to = λ s i j m. (m.0, h.to s i m.0 m.1, g.to s m.0 j m.2);
  from = λ s i j m. (m.0, h.from s i m.0 m.1, g.from s m.0 j m.2);
}

pub same_alt : (p q a b : Pattern) → IsSame p a → IsSame q b → IsSame (alt p q) (alt a b)
same_alt p q a b h g = record {
  to = λ s i j m. elim m [ inl x ↦ inl (h.to s i j x) | inr x ↦ inr (g.to s i j x) ];
  from = λ s i j m. elim m [ inl x ↦ inl (h.from s i j x) | inr x ↦ inr (g.from s i j x) ];
}

chain_map : (R Q : ℕ → ℕ → Type 0) (n i j : ℕ) → ((k l : ℕ) → R k l → Q k l) → Chain R n i j → Chain Q n i j
chain_map R Q zero i j f is = is
chain_map R Q (suc n) i j f (k, one, chain) = (k, f i k one, chain_map R Q n k j f chain)

pub same_repeat : (p a : Pattern) (least : ℕ) (most : Option ℕ) → IsSame p a
    → IsSame (repeat p least most) (repeat a least most)
same_repeat p a least most h = record {
  to = λ s i j m. (m.0, m.1, m.2, chain_map (Matches s p) (Matches s a) m.0 i j (λ k l x. h.to s k l x) m.3);
  from = λ s i j m. (m.0, m.1, m.2, chain_map (Matches s a) (Matches s p) m.0 i j (λ k l x. h.from s k l x) m.3);
}

-- nothing before, nothing after, nothing repeated
pub empty_cat : (p : Pattern) → IsSame p (cat empty p)
empty_cat p = record { to = λ s i j m. (i, refl, m); from = λ s i j m. subst (λ x. Matches s p x j) (sym m.1) m.2 }

pub cat_empty : (p : Pattern) → IsSame p (cat p empty)
cat_empty p = record { to = λ s i j m. (j, m, refl); from = λ s i j m. subst (λ x. Matches s p i x) m.2 m.1 }

pub empty_alt : (p : Pattern) → IsSame (repeat p 0 (Some 1)) (alt empty p)
empty_alt p = record {
  to = λ s i j m. elim ((alt_empty p).from s i j m) [ inl x ↦ inr x | inr x ↦ inl x ];
  from = λ s i j m. (alt_empty p).to s i j
      (elim m as (λ _. Matches s (alt p empty) i j) [ inl x ↦ inr x | inr x ↦ inl x ]);
}

chain_still : (s : List ℕ) (n i j : ℕ) → Chain (Matches s empty) n i j → i ≡ j
chain_still s zero i j is = is
chain_still s (suc n) i j (k, one, chain) = one ∙ chain_still s n k j chain

stays : (s : List ℕ) (n i : ℕ) → Chain (Matches s empty) n i i
stays s zero i = refl
stays s (suc n) i = (i, refl, stays s n i)

pub empty_repeat : (least : ℕ) (more : Option ℕ) → IsSame empty (repeat empty least (option_map (λ m. least + m) more))
empty_repeat least more = record {
  to = λ s i j m. (least, omega arith, enough more, subst (λ x. Chain (Matches s empty) least i x) m (stays s least i));
  from = λ s i j m. chain_still s m.0 i j m.3;
} where
  enough : (more : Option ℕ) → AtMost (option_map (λ m. least + m) more) least
  enough None = tt
  enough (Some m) = omega arith

pub never : (p : Pattern) → IsSame empty (repeat p 0 (Some 0))
never p = record { to = λ s i j m. (0, omega arith, omega arith, m); from = λ s i j m. none s i j m.0 m.2 m.3 } where
  none : (s : List ℕ) (i j n : ℕ) → n ≤ 0 → Chain (Matches s p) n i j → i ≡ j
  none s i j zero le is = is
  none s i j (suc n) le chain = absurd (omega arith)

-- a repetition by `*`, `+` or `?` of another one
module _ (s : List ℕ) (p : Pattern) (low : ℕ) (room : Option ℕ) where
  abbrev Inner : Pattern
  Inner = repeat p low room

  blocks : (n i j : ℕ) → Chain (Matches s Inner) n i j → (m : ℕ) × Chain (Matches s p) m i j × (low ≡ 1 → n ≤ m)
      × (room ≡ Some 1 → m ≤ n)
  blocks zero i j is = (0, is, (λ e. omega arith), (λ e. omega arith))
  blocks (suc n) i j (k, one, chain) =
      let y = blocks n k j chain in
      let z = chain_joined (Matches s p) one.0 y.0 i k j one.3 y.1 in (
        z.0,
        z.2,
        (λ e. omega (arith, z.1, y.2 e, one.1)),
        (λ e. let top : one.0 ≤ 1 = subst (λ x. AtMost x one.0) e one.2 in omega (arith, z.1, y.3 e)),
      )

  singly : low ≤ 1 → AtMost room 1 → (n i j : ℕ) → Chain (Matches s p) n i j → Chain (Matches s Inner) n i j
  singly le top zero i j is = is
  singly le top (suc n) i j (k, one, chain) = (k, (1, le, top, (k, one, refl)), singly le top n k j chain)

star_of : (p : Pattern) (low least : ℕ) (room most : Option ℕ) → low ≤ 1 → AtMost room 1 → least ≤ 1 → AtMost most 1
    → ((n : ℕ) → AtMost room n ⊎ AtMost most n) → ((low ≡ 0) ⊎ (least ≡ 0))
    → IsSame (repeat p 0 None) (repeat (repeat p low room) least most)
star_of p low least room most a b c d wide loose = record {
  to = λ s i j m. into s i j m.0 m.3;
  from = λ s i j m. let y = blocks s p low room m.0 i j m.3 in (y.0, omega arith, tt, y.1);
} where
  into : (s : List ℕ) (i j n : ℕ) → Chain (Matches s p) n i j → Matches s (repeat (repeat p low room) least most) i j
  into s i j zero is = elim loose [
    | inl e ↦ (1, c, d, (j, (0, omega arith, at_most_zero room, is), refl))
    | inr e ↦ (0, omega arith, at_most_zero most, is)
  ] where
    at_most_zero : (o : Option ℕ) → AtMost o 0
    at_most_zero None = tt
    at_most_zero (Some n) = omega arith
  into s i j (suc n) chain = elim (wide (suc n)) [
    | inl e ↦ (1, c, d, (j, (suc n, omega arith, e, chain), refl))
    | inr e ↦ (suc n, omega arith, e, singly s p low room a b (suc n) i j chain)
  ]

plus_plus : (p : Pattern) → IsSame (repeat p 1 None) (repeat (repeat p 1 None) 1 None)
plus_plus p = record {
  to = λ s i j m. (1, omega arith, tt, (j, m, refl));
  from = λ s i j m. let y = blocks s p 1 None m.0 i j m.3 in (y.0, omega (arith, m.1, y.2 refl), tt, y.1);
}

option_option : (p : Pattern) → IsSame (repeat p 0 (Some 1)) (repeat (repeat p 0 (Some 1)) 0 (Some 1))
option_option p = record {
  to = λ s i j m. (1, omega arith, omega arith, (j, m, refl));
  from = λ s i j m. let y = blocks s p 0 (Some 1) m.0 i j m.3 in (y.0, omega arith, omega (arith, m.2, y.3 refl), y.1);
}

both_true : (x y : Bool) → (x && y) ≡ true → (x ≡ true) × (y ≡ true)
both_true true y h = (refl, h)
both_true false y h = absurd (cc)

-- the bounds of `*`, `+` and `?`
abbrev IsSimple : ℕ → Option ℕ → Type 0
IsSimple low room = ((low ≡ 0) × (room ≡ None)) ⊎ (((low ≡ 1) × (room ≡ None)) ⊎ ((low ≡ 0) × (room ≡ Some 1)))

simple : (low : ℕ) (room : Option ℕ) → is_simple low room ≡ true → IsSimple low room
simple low None e = elim (cases_eq low 0) [
  | inl is ↦ inl (is, refl)
  | inr ne ↦ inr (inl ((let le : low ≤ 1 = leb-true low 1 e in omega arith), refl))
]
simple low (Some more) e =
    let f = both_true (low == 0) (more == 1) e in
    inr (inr (eqb-true low 0 f.0, ap Some (eqb-true more 1 f.1)))

abbrev Once : Pattern → ℕ → Option ℕ → Pattern
Once p low room = repeat p low (option_map (λ m. low + m) room)

abbrev Merges : Pattern → ℕ → Option ℕ → ℕ → Option ℕ → Type 0
Merges p low room least more =
    let both = merged (low, room) (least, more) in IsSame (Once p both.0 both.1) (Once (Once p low room) least more)

moved : (p : Pattern) (low : ℕ) (room : Option ℕ) (least : ℕ) (more : Option ℕ) (a : ℕ) (b : Option ℕ) (c : ℕ)
    (d : Option ℕ) → low ≡ a → room ≡ b → least ≡ c → more ≡ d → Merges p a b c d → Merges p low room least more
moved p low room least more a b c d e f g h m =
    subst (λ x. Merges p x room least more) (sym e) (subst (λ x. Merges p a x least more) (sym f)
    (subst (λ x. Merges p a b x more) (sym g) (subst (λ x. Merges p a b c x) (sym h) m)))

merges : (p : Pattern) (low : ℕ) (room : Option ℕ) (least : ℕ) (more : Option ℕ) → IsSimple low room
    → IsSimple least more → Merges p low room least more
merges p low room least more h g = at low room least more h g where
  at : (low : ℕ) (room : Option ℕ) (least : ℕ) (more : Option ℕ) → IsSimple low room → IsSimple least more
      → Merges p low room least more
  at low room least more (inl (a, b)) (inl (c, d)) = moved p low room least more 0 None 0 None a b c d
      (star_of p 0 0 None None (omega arith) tt (omega arith) tt (λ n. inl tt) (inl refl))
  at low room least more (inl (a, b)) (inr (inl (c, d))) = moved p low room least more 0 None 1 None a b c d
      (star_of p 0 1 None None (omega arith) tt (omega arith) tt (λ n. inl tt) (inl refl))
  at low room least more (inl (a, b)) (inr (inr (c, d))) = moved p low room least more 0 None 0 (Some 1) a b c d
      (star_of p 0 0 None (Some 1) (omega arith) tt (omega arith) (omega arith) (λ n. inl tt) (inl refl))
  at low room least more (inr (inl (a, b))) (inl (c, d)) = moved p low room least more 1 None 0 None a b c d
      (star_of p 1 0 None None (omega arith) tt (omega arith) tt (λ n. inl tt) (inr refl))
  at low room least more (inr (inl (a, b))) (inr (inl (c, d))) = moved p low room least more 1 None 1 None a b c d
      (plus_plus p)
  at low room least more (inr (inl (a, b))) (inr (inr (c, d))) = moved p low room least more 1 None 0 (Some 1) a b c d
      (star_of p 1 0 None (Some 1) (omega arith) tt (omega arith) (omega arith) (λ n. inl tt) (inr refl))
  at low room least more (inr (inr (a, b))) (inl (c, d)) = moved p low room least more 0 (Some 1) 0 None a b c d
      (star_of p 0 0 (Some 1) None (omega arith) (omega arith) (omega arith) tt (λ n. inr tt) (inl refl))
  at low room least more (inr (inr (a, b))) (inr (inl (c, d))) = moved p low room least more 0 (Some 1) 1 None a b c d
      (star_of p 0 1 (Some 1) None (omega arith) (omega arith) (omega arith) tt (λ n. inr tt) (inl refl))
  at low room least more (inr (inr (a, b))) (inr (inr (c, d))) = moved p low room least more 0 (Some 1) 0 (Some 1) a b c
      d (option_option p)

pub merged_same : (p : Pattern) (low : ℕ) (room : Option ℕ) (least : ℕ) (more : Option ℕ) → is_simple low room ≡ true
    → is_simple least more ≡ true → Merges p low room least more
merged_same p low room least more h g = merges p low room least more (simple low room h) (simple least more g)

exact_bounds : (count least : ℕ) (more : Option ℕ) → is_exactly count least more ≡ true → (least ≡ count)
    × (more ≡ Some 0)
exact_bounds count least None e = absurd (cc)
exact_bounds count least (Some m) e =
    let f = both_true (least == count) (m == 0) e in (eqb-true least count f.0, ap Some (eqb-true m 0 f.1))

pub exactly_never : (p : Pattern) (least : ℕ) (more : Option ℕ) → is_exactly 0 least more ≡ true
    → IsSame empty (repeat p least (option_map (λ m. least + m) more))
exactly_never p least more e =
    let f = exact_bounds 0 least more e in
    subst (λ n. IsSame empty (repeat p n (option_map (λ m. n + m) more))) (sym f.0)
    (subst (λ o. IsSame empty (repeat p 0 (option_map (λ m. 0 + m) o))) (sym f.1) (never p))

pub exactly_once : (p : Pattern) (least : ℕ) (more : Option ℕ) → is_exactly 1 least more ≡ true
    → IsSame p (repeat p least (option_map (λ m. least + m) more))
exactly_once p least more e =
    let f = exact_bounds 1 least more e in
    subst (λ n. IsSame p (repeat p n (option_map (λ m. n + m) more))) (sym f.0)
    (subst (λ o. IsSame p (repeat p 1 (option_map (λ m. 1 + m) o))) (sym f.1)
    (same_back (repeat p 1 (Some 1)) p (once p)))
