-- Reading tokens from the left, with a stack of open groups, and that it reads just what is spelled.
use Rattle.std.proofs.Common.{◌≡◌, ℕ, List, [], ◌∷◌, ◌++◌, Option, Some, None, refl, sym, ◌∙◌, ap, subst, append_assoc}
use Rattle.awk_ere.specs.Pattern.{Pattern}
use Rattle.awk_ere.specs.Token.{Token, atom, anchor, times, opening, closing, bar}
use Rattle.awk_ere.specs.Grammar.{Kind, ere, branch, item, Spells, one_branch, another, no_piece, then_anchor}
use Rattle.awk_ere.specs.Grammar.{then_item, single, group, repeated}
use Rattle.awk_ere.specs.Tree.{Meant, cats, alts, repeats, nothing, Frame, frame, flush, joined, before, flushed}
use Rattle.awk_ere.specs.Tree.{finished, fresh, with_last, Stack, taken}

-- all tokens in turn, and the whole at the end
abbrev pub run_on : Option Stack → (List Frame → Frame → Option Meant) → Option Meant
run_on None more = None
run_on (Some st) more = more st.0 st.1

abbrev pub run : List Token → List Frame → Frame → Option Meant
run [] [] f = Some (finished f)
run [] (o ∷ os) f = None
run (t ∷ ts) os f = run_on (taken t os f) (run ts)

append_nil : (ts : List Token) → ts ++ [] ≡ ts
append_nil [] = refl
append_nil (t ∷ ts) = ap (λ x. t ∷ x) (append_nil ts)

abbrev pub SpellsIt : Kind → List Token → Meant → Type 0
SpellsIt k ts p = Spells k ts p.0 p.1

-- what is spelled is read: whatever stands before and after
module _ where
  -- a branch, an ere and an item, read before the tokens `rest`
  pub record ReadsBranch (ts : List Token) (p : Meant) (b : Option Meant) (rest : List Token) (os : List Frame) : Type 0
    where
      pub to : Frame
      pub same : before to ≡ b
      pub value : flushed to ≡ p
      pub runs : run (ts ++ rest) os (frame b nothing None) ≡ run rest os to

  pub record ReadsEre (ts : List Token) (p : Meant) (rest : List Token) (os : List Frame) : Type 0 where
    pub to : Frame
    pub value : finished to ≡ p
    pub runs : run (ts ++ rest) os fresh ≡ run rest os to

  abbrev pub Reads : Kind → List Token → Meant → Type 0
  Reads ere ts p = (rest : List Token) (os : List Frame) → ReadsEre ts p rest os
  Reads branch ts p = (b : Option Meant) (rest : List Token) (os : List Frame) → ReadsBranch ts p b rest os
  Reads item ts p = (rest : List Token) (os : List Frame) (f : Frame)
      → run (ts ++ rest) os f ≡ run rest os (with_last f p)

  finished_by : (f : Frame) (b : Option Meant) (p : Meant) → before f ≡ b → flushed f ≡ p → finished f ≡ joined b p
  finished_by (frame b q l) c p e g = ap (λ x. joined x (flush q l)) e ∙ ap (λ x. joined c x) g

  again : (f : Frame) (p : Meant) (rest : List Token) (os : List Frame) (least : ℕ) (most : Option ℕ) (factor : ℕ)
      → run (times least most factor ∷ rest) os (with_last f p)
      ≡ run rest os (with_last f (repeats p least most factor))
  again (frame b q l) p rest os least most factor = refl

  pub reads : (k : Kind) (ts : List Token) (p : Pattern) (n : ℕ) → Spells k ts p n → Reads k ts (p, n)
  reads ere _ _ _ (one_branch ts p n h) = λ rest os.
      let r = reads branch ts p n h None rest os in
      record { to = r.to; value = finished_by r.to None (p, n) r.same r.value; runs = r.runs }
  reads ere _ _ _ (another ts us p q n m h g) = λ rest os.
      let l = reads ere ts p n h (bar ∷ (us ++ rest)) os in
      let r = reads branch us q m g (Some (finished l.to)) rest os in
      record {
        to = r.to;
        value = finished_by r.to (Some (p, n)) (q, m) (r.same ∙ ap Some l.value) r.value;
        runs = ap (λ x. run x os fresh) (append_assoc ts (bar ∷ us) rest) ∙ l.runs ∙ r.runs;
      }
  reads branch _ _ _ no_piece = λ b rest os. record {
    to = frame b nothing None;
    same = refl;
    value = refl;
    runs =
        refl;
  }
  reads branch _ _ _ (then_anchor ts p q n h) = λ b rest os.
      let l = reads branch ts p n h b (anchor q ∷ rest) os in
      record {
        to = frame (before l.to) (cats (flushed l.to) (q, 1)) None;
        same = l.same;
        value = ap (λ x. cats x (q, 1)) l.value;
        runs = ap (λ x. run x os (frame b nothing None)) (append_assoc ts (anchor q ∷ []) rest) ∙ l.runs;
      }
  reads branch _ _ _ (then_item ts us p q n m h g) = λ b rest os.
      let l = reads branch ts p n h b (us ++ rest) os in
      record {
        to = with_last l.to (q, m);
        same = l.same;
        value = ap (λ x. cats x (q, m)) l.value;
        runs = ap (λ x. run x os (frame b nothing None)) (append_assoc ts us rest) ∙ l.runs
            ∙ reads item us q m g rest os l.to;
      }
  reads item _ _ _ (single p) = λ rest os f. refl
  reads item _ _ _ (group ts p n h) = λ rest os f.
      let l = reads ere ts p n h (closing ∷ rest) (f ∷ os) in
      ap (λ x. run x (f ∷ os) fresh) (append_assoc ts (closing ∷ []) rest) ∙ l.runs
      ∙ ap (λ x. run rest os (with_last f x)) l.value
  reads item _ _ _ (repeated ts p n least most factor h) = λ rest os f.
      ap (λ x. run x os f) (append_assoc ts (times least most factor ∷ []) rest) ∙ reads item ts p n h
      (times least most factor ∷ rest) os f ∙ again f (p, n) rest os least most factor

  pub spelled_is_read : (ts : List Token) (p : Pattern) (n : ℕ) → Spells ere ts p n → run ts [] fresh ≡ Some (p, n)
  spelled_is_read ts p n h =
      let r = reads ere ts p n h [] [] in
      ap (λ x. run x [] fresh) (sym (append_nil ts)) ∙ r.runs ∙ ap Some r.value

-- what is read is spelled
abbrev pub BranchAt : Meant → Option Meant → List Token → Type 0
BranchAt p None ys = SpellsIt branch ys p
BranchAt p (Some q) ys = (ts : List Token) × (us : List Token) × (ys ≡ ts ++ us) × SpellsIt branch ts p
    × SpellsIt item us q

abbrev pub FrameAt : Frame → List Token → Type 0
FrameAt (frame None p l) us = BranchAt p l us
FrameAt (frame (Some a) p l) us = (xs : List Token) × (ys : List Token) × (us ≡ xs ++ bar ∷ ys) × SpellsIt ere xs a
    × BranchAt p l ys

-- the tokens so far, as the open groups and the innermost frame have them
abbrev pub StackAt : List Frame → Frame → List Token → Type 0
StackAt [] f us = FrameAt f us
StackAt (o ∷ os) f us = (xs : List Token) × (ys : List Token) × (us ≡ xs ++ opening ∷ ys) × StackAt os o xs
    × FrameAt f ys

flush_spells : (p : Meant) (l : Option Meant) (ys : List Token) → BranchAt p l ys → SpellsIt branch ys (flush p l)
flush_spells p None ys h = h
flush_spells p (Some q) ys (ts, us, e, h, g) = subst (λ x. SpellsIt branch x (cats p q)) (sym e)
    (then_item ts us p.0 q.0 p.1 q.1 h g)

pub finish_spells : (f : Frame) (us : List Token) → FrameAt f us → SpellsIt ere us (finished f)
finish_spells (frame None p l) us h = let q = flush p l in one_branch us q.0 q.1 (flush_spells p l us h)
finish_spells (frame (Some a) p l) us (xs, ys, e, h, g) =
    let q = flush p l in
    subst (λ x. SpellsIt ere x (alts a q)) (sym e) (another xs ys a.0 q.0 a.1 q.1 h (flush_spells p l ys g))

-- more at the end of the branch
module _ (vs : List Token) (q : Meant) (m : Option Meant) where
  more_branch : (b : Option Meant) (p : Meant) (l : Option Meant) (us : List Token)
      → ((ys : List Token) → BranchAt p l ys → BranchAt q m (ys ++ vs)) → FrameAt (frame b p l) us
      → FrameAt (frame b q m) (us ++ vs)
  more_branch None p l us more h = more us h
  more_branch (Some a) p l us more (xs, ys, e, h, g) =
      (xs, ys ++ vs, ap (λ x. x ++ vs) e ∙ append_assoc xs (bar ∷ ys) vs, h, more ys g)

add_item : (f : Frame) (us vs : List Token) (q : Meant) → SpellsIt item vs q → FrameAt f us
    → FrameAt (with_last f q) (us ++ vs)
add_item (frame b p l) us vs q spelled h = more_branch vs (flush p l) (Some q) b p l us
    (λ ys g. (ys, vs, refl, flush_spells p l ys g, spelled)) h

add_anchor : (f : Frame) (us : List Token) (q : Pattern) → FrameAt f us
    → FrameAt (frame (before f) (cats (flushed f) (q, 1)) None) (us ++ anchor q ∷ [])
add_anchor (frame b p l) us q h = more_branch (anchor q ∷ []) (cats (flush p l) (q, 1)) None b p l us (λ ys g. let r =
    flush p l in then_anchor ys r.0 q r.1 (flush_spells p l ys g)) h

add_times : (b : Option Meant) (p q : Meant) (us : List Token) (least : ℕ) (most : Option ℕ) (factor : ℕ)
    → FrameAt (frame b p (Some q)) us → FrameAt (frame b p (Some (repeats q least most factor)))
    (us ++ times least most factor ∷ [])
add_times b p q us least most factor h = more_branch (times least most factor ∷ []) p
    (Some (repeats q least most factor)) b p (Some q) us
    (λ ys g. (
      g.0,
      g.1 ++ times least most factor ∷ [],
      ap (λ x. x ++ times least most factor ∷ []) g.2
          ∙ append_assoc g.0 g.1 (times least most factor ∷ []),
      g.3,
      repeated g.1 q.0 q.1 least most factor g.4,
    )) h

add_bar : (f : Frame) (us : List Token) → FrameAt f us → FrameAt (frame (Some (finished f)) nothing None)
    (us ++ bar ∷ [])
add_bar f us h = (us, [], refl, finish_spells f us h, no_piece)

on_top : (os : List Frame) (f g : Frame) (us vs : List Token) → ((ys : List Token) → FrameAt f ys
    → FrameAt g (ys ++ vs)) → StackAt os f us → StackAt os g (us ++ vs)
on_top [] f g us vs more h = more us h
on_top (o ∷ os) f g us vs more (xs, ys, e, h, top) =
    (xs, ys ++ vs, ap (λ x. x ++ vs) e ∙ append_assoc xs (opening ∷ ys) vs, h, more ys top)

closes : (os : List Frame) (o f : Frame) (us : List Token) → StackAt (o ∷ os) f us
    → StackAt os (with_last o (finished f)) (us ++ closing ∷ [])
closes os o f us (xs, ys, same, below, top) =
    subst (λ x. StackAt os (with_last o (finished f)) x)
    (sym (ap (λ x. x ++ closing ∷ []) same ∙ append_assoc xs (opening ∷ ys) (closing ∷ [])))
    (on_top os o (with_last o (finished f)) xs (opening ∷ (ys ++ closing ∷ [])) (λ zs. let p = finished f in
    add_item o zs (opening ∷ (ys ++ closing ∷ [])) p (group ys p.0 p.1 (finish_spells f ys top))) below)

moved : (st to : Stack) (us : List Token) → Some st ≡ Some to → StackAt st.0 st.1 us → StackAt to.0 to.1 us
moved st to us e h = let same : st ≡ to = cc in subst (λ (x : Stack). StackAt x.0 x.1 us) same h

-- after a token the stack stands for one token more
pub taken_at : (t : Token) (os : List Frame) (f : Frame) (us : List Token) (to : Stack) → taken t os f ≡ Some to
    → StackAt os f us → StackAt to.0 to.1 (us ++ t ∷ [])
taken_at (atom q) os f us to e h = moved (os, with_last f (q, 1)) to (us ++ atom q ∷ []) e
    (on_top os f (with_last f (q, 1)) us (atom q ∷ []) (λ ys. add_item f ys (atom q ∷ []) (q, 1) (single q)) h)
taken_at (anchor q) os f us to e h = moved (os, frame (before f) (cats (flushed f) (q, 1)) None) to
    (us ++ anchor q ∷ []) e (on_top os f (frame (before f) (cats (flushed f) (q, 1)) None) us (anchor q ∷ [])
    (λ ys. add_anchor f ys q) h)
taken_at (times least most factor) os (frame b r None) us to e h = absurd (cc)
taken_at (times least most factor) os (frame b r (Some q)) us to e h =
    moved (os, frame b r (Some (repeats q least most factor))) to (us ++ times least most factor ∷ []) e
    (on_top os (frame b r (Some q)) (frame b r (Some (repeats q least most factor))) us (times least most factor ∷ [])
    (λ ys. add_times b r q ys least most factor) h)
taken_at opening os f us to e h = moved (f ∷ os, fresh) to (us ++ opening ∷ []) e (us, [], refl, h, no_piece)
taken_at closing [] f us to e h = absurd (cc)
taken_at closing (o ∷ os) f us to e h = moved (os, with_last o (finished f)) to (us ++ closing ∷ []) e
    (closes os o f us h)
taken_at bar os f us to e h = moved (os, frame (Some (finished f)) nothing None) to (us ++ bar ∷ []) e
    (on_top os f (frame (Some (finished f)) nothing None) us (bar ∷ []) (λ ys. add_bar f ys) h)

-- each list of tokens spells one pattern at most
pub one_pattern : (ts : List Token) (p q : Pattern) (n m : ℕ) → Spells ere ts p n → Spells ere ts q m → (p ≡ q)
    × (n ≡ m)
one_pattern ts p q n m h g =
    let a = spelled_is_read ts p n h in
    let b = spelled_is_read ts q m g in
    let x : Meant = (p, n) in
    let y : Meant = (q, m) in
    let same : x ≡ y = cc in
    (ap (λ (z : Meant). z.0) same, ap (λ (z : Meant). z.1) same)
