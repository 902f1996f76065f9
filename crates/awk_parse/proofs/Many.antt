-- The law of what is read as often as a test finds it.
use Rattle.std.proofs.Common.{◌≡◌, ℕ, zero, suc, ◌≤◌, Bool, true, false, List, [], ◌∷◌, ◌++◌, length, map, Ok, refl}
use Rattle.std.proofs.Common.{sym, ap, subst, ◌∙◌, inl, inr, append_assoc, arith}
use Rattle.std.proofs.lemmas.List.{length-append}
use Rattle.std.specs.List.{flat_map}
use Rattle.awk_tokens.specs.declared.token.Token.{Token}
use Rattle.awk_tokens.specs.declared.terminals.Terminal.{Terminal}
use Rattle.awk_tree.specs.Terminals.{ahead}
use Rattle.awk_tree.specs.Input.{Parser, ◌>>=◌, refuse, pure, many_from, many}
use Rattle.awk_parse.proofs.Law.{Near, Form, Read, At, Law, bind_ok, chosen, done_is}

module _ {Y : Type 0} (c : Form Y) (All : List Token → List Y → List Token → Type 0) (test : Terminal → Bool) where
  -- a chain, and that it ends there
  abbrev pub chain : Form (List Y)
  chain = record {
    plain = λ ys. flat_map c.plain ys;
    bare = λ ys. map c.bare ys;
    spells = λ us ys rest. All us ys rest
        × (test (ahead rest) ≡ false);
  }

  pub record ReadAll (p : Parser Y) (ts : List Token) (ys : List Y) (r : List Token) : Type 0 where
    pub used : List Token
    pub parts : ts ≡ used ++ r
    pub spelled : All used ys r
    pub ended : test (ahead r) ≡ false
    pub fits : length ys ≤ length (flat_map c.plain ys)
    pub seen : (s : List Token) → ahead r ≡ ahead s → ahead ts ≡ ahead (flat_map c.plain ys ++ s)
    pub reads : (s : List Token) → ahead r ≡ ahead s → (n : ℕ) → length ys ≤ n
        → many_from test p n (flat_map c.plain ys ++ s) ≡ Ok (map c.bare ys, s)

  module _ (nil : (rest : List Token) → All [] [] rest)
      (cons : (us vs : List Token) (y : Y) (ys : List Y) (rest : List Token) → test (ahead (us ++ (vs ++ rest))) ≡ true
      → c.spells us y (vs ++ rest) → All vs ys rest → All (us ++ vs) (y ∷ ys) rest)
      (some : (y : Y) → 1 ≤ length (c.plain y)) (p : Parser Y) (law : (ts : List Token) → test (ahead ts) ≡ true
      → At Near Near c p ts) where
    none_left : (ts : List Token) → test (ahead ts) ≡ false → ReadAll p ts [] ts
    unfolding many_from
    none_left ts stop =
        record {
          used = [];
          parts = refl;
          spelled = nil ts;
          ended = stop;
          fits = omega arith;
          seen = λ s like. like;
          reads = λ s like n le. stops s n (ap test (sym like) ∙ stop);
        } where
          stops : (s : List Token) (n : ℕ) → test (ahead s) ≡ false → many_from test p n s ≡ Ok ([], s)
          stops s zero h = rw h refl
          stops s (suc n) h = rw h refl

    turn : (ts : List Token) (y : Y) (m : List Token) (ys : List Y) (r : List Token) → test (ahead ts) ≡ true
        → Read Near Near c p ts y m → ReadAll p m ys r → ReadAll p ts (y ∷ ys) r
    unfolding many_from
    turn ts y m ys r go one rest =
        record {
          used = one.used ++ rest.used;
          parts = one.parts ∙ ap (λ (w : List Token). one.used ++ w) rest.parts
              ∙ sym (append_assoc one.used rest.used r);
          spelled = cons one.used rest.used y ys r (ap (λ (w : List Token). test (ahead w))
              (sym (one.parts ∙ ap (λ (w : List Token). one.used ++ w) rest.parts)) ∙ go)
              (subst (λ (w : List Token). c.spells one.used y w) rest.parts one.spelled) rest.spelled;
          ended = rest.ended;
          fits = omega (arith, some y, rest.fits, length-append (c.plain y) (flat_map c.plain ys));
          seen = λ s like. one.seen (flat_map c.plain ys ++ s) (rest.seen s like)
              ∙ ap ahead (sym (append_assoc (c.plain y) (flat_map c.plain ys) s));
          reads = λ s like n le. again s like n le;
        } where
          again : (s : List Token) → ahead r ≡ ahead s → (n : ℕ) → length (y ∷ ys) ≤ n
              → many_from test p n (flat_map c.plain (y ∷ ys) ++ s) ≡ Ok (map c.bare (y ∷ ys), s)
          again s like zero le = absurd (omega arith)
          again s like (suc n) le =
              let next = rest.seen s like in
              let same = append_assoc (c.plain y) (flat_map c.plain ys) s in
              let go' : test (ahead (c.plain y ++ (flat_map c.plain ys ++ s))) ≡ true = ap test (sym (one.seen _ next))
              ∙ go in
              rw (same, go', one.reads _ next, rest.reads s like n (omega arith)) refl

    many_from_law : (n : ℕ) (ts : List Token) (ys : List Y) (r : List Token) → many_from test p n ts ≡ Ok (ys, r)
        → ReadAll p ts ys r
    unfolding many_from
    many_from_law zero ts ys r e =
        elim (chosen (test (ahead ts)) (refuse ts) (Ok ([], ts)) (Ok (ys, r)) e) [
          | inl h ↦ absurd cc
          | inr h ↦ let d = done_is [] ys ts r h.1 in
              subst (λ (w : List Token). ReadAll p ts ys w) d.1 (subst (λ (zs : List Y). ReadAll p ts zs ts) d.0
              (none_left ts h.0))
        ]
    many_from_law (suc n) ts ys r e =
        elim (chosen (test (ahead ts)) ((p >>= λ x. many_from test p n >>= λ xs. pure (x ∷ xs)) ts) (Ok ([], ts))
        (Ok (ys, r)) e) [
          | inl h ↦
              let a = bind_ok (p ts) (λ x. many_from test p n >>= λ xs. pure (x ∷ xs)) ys r h.1 in
              let b = bind_ok (many_from test p n a.1) (λ xs. pure (a.0 ∷ xs)) ys r a.3 in
              let d = done_is (a.0 ∷ b.0) ys b.1 r b.3 in
              subst (λ (w : List Token). ReadAll p ts ys w) d.1
              (subst (λ (zs : List Y). ReadAll p ts zs b.1) d.0 (turn ts a.0 a.1 b.0 b.1 h.0 (law ts h.0 a.0 a.1 a.2)
              (many_from_law n a.1 b.0 b.1 b.2)))
          | inr h ↦ let d = done_is [] ys ts r h.1 in
              subst (λ (w : List Token). ReadAll p ts ys w) d.1 (subst (λ (zs : List Y). ReadAll p ts zs ts) d.0
              (none_left ts h.0))
        ]

    pub many_law : Law Near Near chain (many test p)
    many_law ts ys r e =
        let h = many_from_law (length ts) ts ys r e in
        record {
          used = h.used;
          parts = h.parts;
          spelled = (h.spelled, h.ended);
          seen = h.seen;
          reads = λ s like. h.reads s like _ (omega (arith, h.fits, length-append (flat_map c.plain ys) s));
        }
