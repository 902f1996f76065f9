-- The law of what is read up to where a list ends.
use Rattle.std.proofs.Common.{◌≡◌, ℕ, zero, suc, ◌≤◌, Bool, true, false, List, [], ◌∷◌, ◌++◌, length, map, Ok, refl}
use Rattle.std.proofs.Common.{sym, ap, subst, ◌∙◌, inl, inr, append_assoc, arith}
use Rattle.std.proofs.lemmas.List.{length-append}
use Rattle.std.specs.List.{flat_map}
use Rattle.awk_tokens.specs.declared.token.Token.{Token}
use Rattle.awk_tree.specs.Input.{Parser, ◌>>=◌, refuse, pure}
use Rattle.awk_tree.specs.Statements.{until_from, many_until}
use Rattle.awk_parse.proofs.Law.{Eye, Form, Read, Law, bind_ok, chosen, done_is}

-- behind another list, and what stands between
between_same : {A : Type 0} (p sep f s : List A) → ((p ++ sep) ++ f) ++ s ≡ p ++ (sep ++ (f ++ s))
between_same p sep f s = simp append_assoc

-- what is spelled canonically: each part, and `sep` behind it
module _ {Y : Type 0} (c : Form Y) (spelt : Y → List Token) (sep : List Token) (gap : List Token → List Token)
    (ends : List Token → Bool) (All : List Token → List Y → List Token → Type 0) (i o e : Eye) where
  abbrev pub listing : Form (List Y)
  listing = record { plain = λ ys. flat_map spelt ys; bare = λ ys. map c.bare ys; spells = All }

  -- the list ends there, at once
  abbrev pub Stops : Eye
  Stops r s = (ends s ≡ true) × (gap s ≡ s)

  pub record ReadUntil (p : Parser Y) (ts : List Token) (ys : List Y) (r : List Token) : Type 0 where
    pub used : List Token
    pub parts : ts ≡ used ++ r
    pub spelled : All used ys r
    pub fits : length ys ≤ length (flat_map spelt ys)
    pub seen : (s : List Token) → Stops r s → e ts (flat_map spelt ys ++ s)
    pub reads : (s : List Token) → Stops r s → (n : ℕ) → length ys ≤ n
        → until_from gap ends p n (flat_map spelt ys ++ s) ≡ Ok (map c.bare ys, s)

  module _ (spelt_is : (y : Y) → spelt y ≡ c.plain y ++ sep) (some : (y : Y) → 1 ≤ length (spelt y))
      (Gaps : List Token → Type 0) (gap_parts : (ts : List Token) → (gs : List Token) × Gaps gs × (ts ≡ gs ++ gap ts))
      (gone : (s : List Token) → gap (sep ++ s) ≡ gap s)
      (stands : (y : Y) (s : List Token) → (gap (c.plain y ++ s) ≡ c.plain y ++ s) × (ends (c.plain y ++ s) ≡ false))
      (into : (m s : List Token) → e m s → o m (sep ++ s)) (from : (ts us : List Token) → i (gap ts) us → e ts us)
      (last : (ts s : List Token) → ends (gap ts) ≡ true → ends s ≡ true → e ts s)
      (nil : (gs rest : List Token) → Gaps gs → ends rest ≡ true → All gs [] rest)
      (cons : (gs us vs : List Token) (y : Y) (ys : List Y) (rest : List Token) → Gaps gs → c.spells us y (vs ++ rest)
      → All vs ys rest → All ((gs ++ us) ++ vs) (y ∷ ys) rest)
      (p : Parser Y) (law : Law i o c p) where
    none_left : (ts r : List Token) → ends (gap ts) ≡ true → gap ts ≡ r → ReadUntil p ts [] r
    unfolding until_from
    none_left ts r stop same =
        let g = gap_parts ts in
        record {
          used = g.0;
          parts = g.2 ∙ ap (λ (w : List Token). g.0 ++ w) same;
          spelled = nil g.0 r g.1 (ap ends (sym same) ∙ stop);
          fits = omega arith;
          seen = λ s like. last ts s stop like.0;
          reads = λ s like n le. stops s n like.0 like.1;
        } where
          stops : (s : List Token) (n : ℕ) → ends s ≡ true → gap s ≡ s → until_from gap ends p n s ≡ Ok ([], s)
          stops s zero h k = rw (k, h) refl
          stops s (suc n) h k = rw (k, h) refl

    -- what stands between two parts is nothing to the next one
    passed : (n : ℕ) (s : List Token) → until_from gap ends p n (sep ++ s) ≡ until_from gap ends p n s
    unfolding until_from
    passed zero s = rw (gone s) refl
    passed (suc n) s = rw (gone s) refl

    turn : (ts : List Token) (y : Y) (m : List Token) (ys : List Y) (r : List Token) → Read i o c p (gap ts) y m
        → ReadUntil p m ys r → ReadUntil p ts (y ∷ ys) r
    unfolding until_from
    turn ts y m ys r one rest =
        let g = gap_parts ts in
        record {
          used = (g.0 ++ one.used) ++ rest.used;
          parts = g.2 ∙ ap (λ (w : List Token). g.0 ++ w) (one.parts ∙ ap (λ (w : List Token). one.used ++ w)
              rest.parts) ∙ simp append_assoc;
          spelled = cons g.0 one.used rest.used y ys r g.1 (subst (λ (w : List Token). c.spells one.used y w) rest.parts
              one.spelled) rest.spelled;
          fits = omega (arith, some y, rest.fits, length-append (spelt y) (flat_map spelt ys));
          seen = λ s like. from ts _ (subst (λ (w : List Token). i (gap ts) w) (sym (same s))
              (one.seen _ (into m _ (rest.seen s like))));
          reads = λ s like n le. again s like n le;
        } where
          same : (s : List Token) → flat_map spelt (y ∷ ys) ++ s ≡ c.plain y ++ (sep ++ (flat_map spelt ys ++ s))
          same s = ap (λ (w : List Token). (w ++ flat_map spelt ys) ++ s) (spelt_is y) ∙ between_same (c.plain y) sep
              (flat_map spelt ys) s

          again : (s : List Token) → Stops r s → (n : ℕ) → length (y ∷ ys) ≤ n
              → until_from gap ends p n (flat_map spelt (y ∷ ys) ++ s) ≡ Ok (map c.bare (y ∷ ys), s)
          again s like zero le = absurd (omega arith)
          again s like (suc n) le =
              let later = sep ++ (flat_map spelt ys ++ s) in
              let there = stands y later in
              rw (
                same s,
                there.0,
                there.1,
                one.reads later (into m _ (rest.seen s like)),
                passed n (flat_map spelt ys ++ s),
                rest.reads s like n (omega arith),
              ) refl

    until_from_law : (n : ℕ) (ts : List Token) (ys : List Y) (r : List Token) → until_from gap ends p n ts ≡ Ok (ys, r)
        → ReadUntil p ts ys r
    unfolding until_from
    until_from_law zero ts ys r h =
        elim (chosen (ends (gap ts)) (Ok ([], gap ts)) (refuse (gap ts)) (Ok (ys, r)) h) [
          | inl k ↦ let d = done_is [] ys (gap ts) r k.1 in
              subst (λ (zs : List Y). ReadUntil p ts zs r) d.0 (none_left ts r k.0 d.1)
          | inr k ↦ absurd cc
        ]
    until_from_law (suc n) ts ys r h =
        elim (chosen (ends (gap ts)) (Ok ([], gap ts)) ((p >>= λ x. until_from gap ends p n >>= λ xs. pure (x ∷ xs))
        (gap ts)) (Ok (ys, r)) h) [
          | inl k ↦ let d = done_is [] ys (gap ts) r k.1 in
              subst (λ (zs : List Y). ReadUntil p ts zs r) d.0 (none_left ts r k.0 d.1)
          | inr k ↦
              let a = bind_ok (p (gap ts)) (λ x. until_from gap ends p n >>= λ xs. pure (x ∷ xs)) ys r k.1 in
              let b = bind_ok (until_from gap ends p n a.1) (λ xs. pure (a.0 ∷ xs)) ys r a.3 in
              let d = done_is (a.0 ∷ b.0) ys b.1 r b.3 in
              subst (λ (w : List Token). ReadUntil p ts ys w) d.1
              (subst (λ (zs : List Y). ReadUntil p ts zs b.1) d.0 (turn ts a.0 a.1 b.0 b.1 (law (gap ts) a.0 a.1 a.2)
              (until_from_law n a.1 b.0 b.1 b.2)))
        ]

    pub until_law : Law e Stops listing (many_until gap ends p)
    until_law ts ys r h =
        let q = until_from_law (length ts) ts ys r h in
        record {
          used = q.used;
          parts = q.parts;
          spelled = q.spelled;
          seen = q.seen;
          reads = λ s like. q.reads s like _ (omega (arith, q.fits, length-append (flat_map spelt ys) s));
        }
