-- The parts of a program that stand for a pattern.
use Rattle.std.proofs.Common.{◌≡◌, ◌-◌, ℕ, zero, suc, ◌+◌, ◌<◌, ◌≤◌, ◌⊎◌, inl, inr, Bool, true, List, length, Option}
use Rattle.std.proofs.Common.{Some, None, option_map, refl, sym, ap, subst, arith, eq-eqb}
use Rattle.std.specs.List.{slice_get}
use Rattle.std.proofs.lemmas.Bool.{eqb-true}
use Rattle.awk_ere.specs.Pattern.{Pattern, empty, bytes, start, finish, cat, alt, repeat, Chain, AtMost, Matches}
use Rattle.awk_ere.specs.Program.{holds, times, left, right, at_start, at_end, Moves, Path, Extends, Means, Grows}
use Rattle.awk_ere.specs.declared.program.Instruction.{Instruction}
use Rattle.awk_ere.specs.declared.token.Class.{Class}
use Rattle.awk_ere.specs.declared.program.Instruction.TheVariants.{Eat, Fork, AtStart, AtEnd, Done}
use Rattle.awk_ere.proofs.Programs.{Grows-extends, skips_fork, skips_start, skips_end, skips_eat}

module _ (sets : List (List Bool)) where
  -- what a path from e is, in `Means`
  abbrev pub Splits : List Instruction → Pattern → ℕ → List ℕ → ℕ → ℕ → ℕ → Type 0
  Splits full p next s n i j = (k : ℕ) × (m : ℕ) × (m ≤ n) × Matches s p i k × Path sets full s m next k 0 j

  abbrev pub Ends : List Instruction → List ℕ → ℕ → ℕ → ℕ → Type 0
  Ends full s e i j = (m : ℕ) × Path sets full s m e i 0 j

  pub Means-grows : (a b : List Instruction) (e : ℕ) (p : Pattern) (next : ℕ) → Grows a b → Means sets a e p next
      → Means sets b e p next
  Means-grows a b e p next g m = record {
    into = λ full s n i j ext. m.into full s n i j (Grows-extends a b full g ext);
    back = λ full s k n i j ext. m.back full s k n i j (Grows-extends a b full g ext);
  }

  pub Means-extends : (a b : List Instruction) (e : ℕ) (p : Pattern) (next : ℕ) → Extends a b → Means sets a e p next
      → Means sets b e p next
  Means-extends a b e p next g m = record {
    into = λ full s n i j ext. m.into full s n i j (λ q x real at. ext q x real (g q x real at));
    back = λ full s k n i j ext. m.back full s k n i j (λ q x real at. ext q x real (g q x real at));
  }

  pub means_empty : (a : List Instruction) (e : ℕ) → Means sets a e empty e
  means_empty a e = record {
    into = λ full s n i j ext done path. (i, n, omega arith, refl, path);
    back = λ full s k n i j ext m path. (n, subst (λ x. Path sets full s n e x 0 j) (sym m) path);
  }

  -- a path of a step and a path
  one_more : (full : List Instruction) (s : List ℕ) (q i p k : ℕ) (j : ℕ) → Moves sets full s q i p k
      → Ends full s p k j → Ends full s q i j
  one_more full s q i p k j move (m, path) = (suc m, (p, k, move, path))

  module _ (full : List Instruction) (s : List ℕ) (e next : ℕ) (done : slice_get full 0 ≡ Some Done) where
    bytes_into : (k : Class) (n i j : ℕ) → slice_get full e ≡ Some (Eat k next) → Path sets full s n e i 0 j
        → Splits full (bytes (holds sets k)) next s n i j
    bytes_into k zero i j at (is, same) = let f = ap (λ x. slice_get full x) is in absurd (cc)
    bytes_into k (suc n) i j at (p, l, inl (skip, same), path) = absurd (skips_eat full _ _ e p k next at skip)
    bytes_into k (suc n) i j at (p, l, inr (eats, same), path) =
        let step = eats.step in
        let class : eats.class ≡ k = cc in
        let to : p ≡ next = cc in (
          l,
          n,
          omega arith,
          (eats.inside, subst (λ x. holds sets x (_) ≡ true) class eats.taken, same),
          subst (λ x. Path sets full s n x l 0 j) to path,
        )

    start_into : (n i j : ℕ) → slice_get full e ≡ Some (AtStart next) → Path sets full s n e i 0 j
        → Splits full start next s n i j
    start_into zero i j at (is, same) = let f = ap (λ x. slice_get full x) is in absurd (cc)
    start_into (suc n) i j at (p, l, inl (skip, same), path) =
        let f = skips_start full _ _ e p next at skip in
        (l, n, omega arith, (eqb-true i 0 f.1, sym same), subst (λ x. Path sets full s n x l 0 j) f.0 path)
    start_into (suc n) i j at (p, l, inr (eats, same), path) = let step = eats.step in absurd (cc)

    end_into : (n i j : ℕ) → slice_get full e ≡ Some (AtEnd next) → Path sets full s n e i 0 j
        → Splits full finish next s n i j
    end_into zero i j at (is, same) = let f = ap (λ x. slice_get full x) is in absurd (cc)
    end_into (suc n) i j at (p, l, inl (skip, same), path) =
        let f = skips_end full _ _ e p next at skip in
        (l, n, omega arith, (eqb-true i (length s) f.1, sym same), subst (λ x. Path sets full s n x l 0 j) f.0 path)
    end_into (suc n) i j at (p, l, inr (eats, same), path) = let step = eats.step in absurd (cc)

    -- the two ways on from a fork
    fork_into : (a b n i j : ℕ) → slice_get full e ≡ Some (Fork a b) → Path sets full s n e i 0 j → (m : ℕ) × (m < n)
        × (Path sets full s m a i 0 j ⊎ Path sets full s m b i 0 j)
    fork_into a b zero i j at (is, same) = let f = ap (λ x. slice_get full x) is in absurd (cc)
    fork_into a b (suc n) i j at (p, l, inl (skip, same), path) = (
      n,
      omega arith,
      elim (skips_fork full _ _ e p a b at skip) [
        | inl is ↦ inl (subst (λ x. Path sets full s n x i 0 j) is (subst (λ x. Path sets full s n p x 0 j) same path))
        | inr is ↦ inr (subst (λ x. Path sets full s n x i 0 j) is (subst (λ x. Path sets full s n p x 0 j) same path))
      ],
    )
    fork_into a b (suc n) i j at (p, l, inr (eats, same), path) = let step = eats.step in absurd (cc)

  pub means_bytes : (a : List Instruction) (e : ℕ) (k : Class) (next : ℕ) → slice_get a e ≡ Some (Eat k next)
      → Means sets a e (bytes (holds sets k)) next
  means_bytes a e k next at = record {
    into = λ full s n i j ext done path. bytes_into full s e next done k n i j (ext e (Eat k next) tt at) path;
    back = λ full s l n i j ext m path. one_more full s e i next l j
        (inr (record { class = k; step = ext e (Eat k next) tt at; inside = m.0; taken = m.1 }, m.2)) (n, path);
  }

  pub means_start : (a : List Instruction) (e next : ℕ) → slice_get a e ≡ Some (AtStart next)
      → Means sets a e start next
  means_start a e next at = record {
    into = λ full s n i j ext done path. start_into full s e next done n i j (ext e (AtStart next) tt at) path;
    back = λ full s l n i j ext m path. one_more full s e i next l j
        (inl (at_start (ext e (AtStart next) tt at) (eq-eqb i 0 m.0), sym m.1)) (n, path);
  }

  pub means_finish : (a : List Instruction) (e next : ℕ) → slice_get a e ≡ Some (AtEnd next)
      → Means sets a e finish next
  means_finish a e next at = record {
    into = λ full s n i j ext done path. end_into full s e next done n i j (ext e (AtEnd next) tt at) path;
    back = λ full s l n i j ext m path. one_more full s e i next l j
        (inl (at_end (ext e (AtEnd next) tt at) (eq-eqb i (length s) m.0), sym m.1)) (n, path);
  }

  pub means_cat : (a : List Instruction) (e middle next : ℕ) (p q : Pattern) → Means sets a e p middle
      → Means sets a middle q next → Means sets a e (cat p q) next
  means_cat a e middle next p q l r = record {
    into = λ full s n i j ext done path.
        let x = l.into full s n i j ext done path in
        let y = r.into full s x.1 x.0 j ext done x.4 in
        (y.0, y.1, omega (arith, x.2, y.2), (x.0, x.3, y.3), y.4);
    back = λ full s k n i j ext m path.
        let y = r.back full s k n m.0 j ext m.2 path in
        l.back full s m.0 y.0 i j ext m.1 y.1;
  }

  pub means_alt : (a : List Instruction) (e x y next : ℕ) (p q : Pattern) → slice_get a e ≡ Some (Fork x y)
      → Means sets a x p next → Means sets a y q next → Means sets a e (alt p q) next
  means_alt a e x y next p q at l r = record {
    into = λ full s n i j ext done path.
        let f = fork_into full s e next done x y n i j (ext e (Fork x y) tt at) path in
        elim f.2 [
          | inl path' ↦ let z = l.into full s f.0 i j ext done path' in
              (z.0, z.1, omega (arith, z.2, f.1), inl z.3, z.4)
          | inr path' ↦ let z = r.into full s f.0 i j ext done path' in
              (z.0, z.1, omega (arith, z.2, f.1), inr z.3, z.4)
        ];
    back = λ full s k n i j ext m path.
        elim m [
          | inl m' ↦ one_more full s e i x i j (inl (left y (ext e (Fork x y) tt at), refl))
              (l.back full s k n i j ext m' path)
          | inr m' ↦ one_more full s e i y i j (inl (right x (ext e (Fork x y) tt at), refl))
              (r.back full s k n i j ext m' path)
        ];
  }

  pub means_regroup : (a : List Instruction) (e next : ℕ) (p q r : Pattern) → Means sets a e (alt p (alt q r)) next
      → Means sets a e (alt (alt p q) r) next
  means_regroup a e next p q r m = record {
    into = λ full s n i j ext done path.
        let z = m.into full s n i j ext done path in
        (z.0, z.1, z.2, elim z.3 [ inl x ↦ inl (inl x) | inr y ↦ elim y [ inl x ↦ inl (inr x) | inr x ↦ inr x ] ], z.4);
    back = λ full s k n i j ext h path.
        m.back full s k n i j ext (elim h [
          | inl y ↦ elim y [ inl x ↦ inl x | inr x ↦ inr (inl x) ]
          | inr x ↦ inr
              (inr x)
        ]) path;
  }

  module _ (a : List Instruction) (e x next : ℕ) (p : Pattern) (at : slice_get a e ≡ Some (Fork x next)) where
    module _ (inner : Means sets a x p e) (full : List Instruction) (s : List ℕ) (ext : Extends a full) where
      star_into : (bound n i j : ℕ) → slice_get full 0 ≡ Some Done → n ≤ bound → Path sets full s n e i 0 j
          → Splits full (repeat p 0 None) next s n i j
      star_into zero n i j done le path =
          let f = fork_into full s e next done x next n i j (ext e (Fork x next) tt at) path in
          absurd (omega (arith, f.1, le))
      star_into (suc bound) n i j done le path =
          let f = fork_into full s e next done x next n i j (ext e (Fork x next) tt at) path in
          elim f.2 [
            | inl path' ↦
                let y = inner.into full s f.0 i j ext done path' in
                let z = star_into bound y.1 y.0 j done (omega (arith, f.1, le, y.2)) y.4 in
                (z.0, z.1, omega (arith, f.1, y.2, z.2), (suc z.3.0, omega arith, tt, (y.0, y.3, z.3.3)), z.4)
            | inr path' ↦ (i, f.0, omega (arith, f.1), (0, omega arith, tt, refl), path')
          ]

      star_back : (count i k n j : ℕ) → Chain (Matches s p) count i k → Path sets full s n next k 0 j
          → Ends full s e i j
      star_back zero i k n j same path =
          one_more full s e i next i j (inl (right x (ext e (Fork x next) tt at), refl))
          (n, subst (λ x. Path sets full s n next x 0 j) (sym same) path)
      star_back (suc count) i k n j (l, m, chain) path =
          let rest = star_back count l k n j chain path in
          one_more full s e i x i j (inl (left next (ext e (Fork x next) tt at), refl))
          (inner.back full s l rest.0 i j ext m rest.1)

    pub means_star : Means sets a x p e → Means sets a e (repeat p 0 None) next
    means_star inner = record {
      into = λ full s n i j ext done path. star_into inner full s ext n n i j done (omega arith) path;
      back = λ full s k n i j ext m path. star_back inner full s ext m.0 i k n j m.3 path;
    }

    module _ (c middle : ℕ) (inner : Means sets a x p middle) (rest : Means sets a middle (repeat p 0 (Some c)) next)
        (full : List Instruction) (s : List ℕ) (ext : Extends a full) where
      option_back : (count i k n j : ℕ) → count ≤ suc c → Chain (Matches s p) count i k → Path sets full s n next k 0 j
          → Ends full s e i j
      option_back zero i k n j le same path =
          one_more full s e i next i j (inl (right x (ext e (Fork x next) tt at), refl))
          (n, subst (λ x. Path sets full s n next x 0 j) (sym same) path)
      option_back (suc count) i k n j le (l, m, chain) path =
          let y = rest.back full s k n l j ext (count, omega arith, omega arith, chain) path in
          one_more full s e i x i j (inl (left next (ext e (Fork x next) tt at), refl))
          (inner.back full s l y.0 i j ext m y.1)

    pub means_option : (c middle : ℕ) → Means sets a x p middle → Means sets a middle (repeat p 0 (Some c)) next
        → Means sets a e (repeat p 0 (Some (suc c))) next
    means_option c middle inner rest = record {
      into = λ full s n i j ext done path.
          let f = fork_into full s e next done x next n i j (ext e (Fork x next) tt at) path in
          elim f.2 [
            | inl path' ↦
                let y = inner.into full s f.0 i j ext done path' in
                let z = rest.into full s y.1 y.0 j ext done y.4 in (
                  z.0,
                  z.1,
                  omega (arith, f.1, y.2, z.2),
                  (
                    suc z.3.0,
                    omega arith,
                    omega (arith, z.3.2),
                    (y.0, y.3, z.3.3),
                  ),
                  z.4,
                )
            | inr path' ↦ (i, f.0, omega (arith, f.1), (0, omega arith, omega arith, refl), path')
          ];
      back = λ full s k n i j ext m path. option_back c middle inner rest full s ext m.0 i k n j m.2 m.3 path;
    }

  -- at most 0 times
  pub means_no_option : (a : List Instruction) (e : ℕ) (p : Pattern) → Means sets a e (repeat p 0 (Some 0)) e
  means_no_option a e p = record {
    into = λ full s n i j ext done path. (i, n, omega arith, (0, omega arith, omega arith, refl), path);
    back = λ full s k n i j ext m path. (
      n,
      subst (λ x. Path sets full s n e x 0 j) (sym (none s i k m.0 m.2 m.3))
          path,
    );
  } where
    none : (s : List ℕ) (i k c : ℕ) → c ≤ 0 → Chain (Matches s p) c i k → i ≡ k
    none s i k zero le same = same
    none s i k (suc c) le chain = absurd (omega arith)

module _ (s : List ℕ) (p : Pattern) (more : Option ℕ) where
  times_into : (c i j : ℕ) → Matches s (times c p (repeat p 0 more)) i j → (n : ℕ) × (m : ℕ) × (n ≡ c + m)
      × AtMost more m × Chain (Matches s p) n i j
  times_into zero i j (n, least, most, chain) = (n, n, omega arith, most, chain)
  times_into (suc c) i j (k, m, rest) =
      let y = times_into c k j rest in
      (suc y.0, y.1, omega (arith, y.2), y.3, (k, m, y.4))

  times_back : (c n m i j : ℕ) → n ≡ c + m → AtMost more m → Chain (Matches s p) n i j
      → Matches s (times c p (repeat p 0 more)) i j
  times_back zero n m i j e most chain = (
    n,
    omega arith,
    (let same : m ≡ n = omega arith in
        subst (λ x. AtMost more x) same most),
    chain,
  )
  times_back (suc c) zero m i j e most chain = absurd (omega arith)
  times_back (suc c) (suc n) m i j e most (k, one, chain) = (k, one, times_back c n m k j (omega arith) most chain)

AtMost-more : (more : Option ℕ) (c n m : ℕ) → n ≡ c + m → AtMost more m → AtMost (option_map (λ x. c + x) more) n
AtMost-more None c n m e h = tt
AtMost-more (Some x) c n m e h = omega arith

AtMost-less : (more : Option ℕ) (c n : ℕ) → c ≤ n → AtMost (option_map (λ x. c + x) more) n → (m : ℕ) × (n ≡ c + m)
    × AtMost more m
AtMost-less None c n le h = (n - c, omega arith, tt)
AtMost-less (Some x) c n le h = (n - c, omega arith, omega arith)

pub repeat_to_times : (s : List ℕ) (p : Pattern) (c : ℕ) (more : Option ℕ) (i j : ℕ)
    → Matches s (repeat p c (option_map (λ x. c + x) more)) i j → Matches s (times c p (repeat p 0 more)) i j
repeat_to_times s p c more i j m =
    let f = AtMost-less more c m.0 m.1 m.2 in times_back s p more c m.0 f.0 i j f.1 f.2 m.3

pub times_to_repeat : (s : List ℕ) (p : Pattern) (c : ℕ) (more : Option ℕ) (i j : ℕ)
    → Matches s (times c p (repeat p 0 more)) i j → Matches s (repeat p c (option_map (λ x. c + x) more)) i j
times_to_repeat s p c more i j m =
    let f = times_into s p more c i j m in (f.0, omega (arith, f.2), AtMost-more more c f.0 f.1 f.2 f.3, f.4)

pub means_repeat : (sets : List (List Bool)) (a : List Instruction) (e next : ℕ) (p : Pattern) (c : ℕ) (more : Option ℕ)
    → Means sets a e (times c p (repeat p 0 more)) next → Means sets a e (repeat p c (option_map (λ x. c + x) more))
    next
means_repeat sets a e next p c more h = record {
  into = λ full s n i j ext done path. let y = h.into full s n i j ext done path in
      (y.0, y.1, y.2, times_to_repeat s p c more i y.0 y.3, y.4);
  back = λ full s k n i j ext m path. h.back full s k n i j ext (repeat_to_times s p c more i k m) path;
}
