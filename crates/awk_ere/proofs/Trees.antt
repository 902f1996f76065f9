-- What the tree's builder keeps.
use Rattle.std.proofs.Common.{◌≡◌, ◌==◌, ℕ, zero, suc, ◌+◌, ◌*◌, inl, inr, min, Bool, true, List, [], ◌∷◌, ◌++◌, Option}
use Rattle.std.proofs.Common.{Some, None, refl, sym, ◌∙◌, ap, subst, arith}
use Rattle.std.proofs.lemmas.Bool.{cases_lt}
use Rattle.awk_ere.specs.Pattern.{Pattern, empty, bytes, cat, alt, repeat}
use Rattle.awk_ere.specs.Same.{IsSame}
use Rattle.awk_ere.specs.Program.{holds}
use Rattle.awk_ere.specs.Lexing.{IsAtom}
use Rattle.awk_ere.specs.Token as spec
use Rattle.awk_ere.specs.View.{pattern}
use Rattle.awk_ere.specs.Tree.{Meant, cats, alts, repeats, nothing, Frame, frame, flush, last, finished, fresh}
use Rattle.awk_ere.specs.Tree.{with_last, with_anchor, with_bar, taken, Stands, StandsAny, IsFrame, AreFrames, IsStack}
use Rattle.awk_ere.specs.declared.node.Node.{Node, Empty, Bytes}
use Rattle.awk_ere.specs.declared.token.Class.{Class}
use Rattle.awk_ere.specs.declared.token.Class.TheVariants.{One, Any, In}
use Rattle.awk_ere.specs.declared.tree.SizedNode as code_part
use Rattle.awk_ere.specs.declared.tree.Frame as code_frame
use Rattle.awk_ere.proofs.Normal.{same_refl, same_trans, same_cat, same_alt, same_repeat}

abbrev pub SizedNode : Type 0
SizedNode = code_part.SizedNode

abbrev pub part : Node → ℕ → SizedNode
part n k = record { node = n; size = k }

module _ (sets : List (List Bool)) where
  pub cat_stands : (l r : SizedNode) (n : Node) (k : ℕ) (p q : Meant) → k ≡ min 20001 (l.size + r.size)
      → ((all : List (List Bool)) → IsSame (pattern all n) (cat (pattern all l.node) (pattern all r.node)))
      → Stands sets l p → Stands sets r q → Stands sets (part n k) (cats p q)
  cat_stands l r n k p q is same h g = record {
    same = λ all later. same_trans _ _ _ (same all) (same_cat _ _ _ _ (h.same all later) (g.same all later));
    size = omega (arith, is, h.size, g.size);
  }

  pub alt_stands : (l r : SizedNode) (n : Node) (k : ℕ) (p q : Meant) → k ≡ min 20001 (l.size + r.size)
      → ((all : List (List Bool)) → IsSame (pattern all n) (alt (pattern all l.node) (pattern all r.node)))
      → Stands sets l p → Stands sets r q → Stands sets (part n k) (alts p q)
  alt_stands l r n k p q is same h g = record {
    same = λ all later. same_trans _ _ _ (same all) (same_alt _ _ _ _ (h.same all later) (g.same all later));
    size = omega (arith, is, h.size, g.size);
  }

  size_times : (n f : ℕ) → min 20001 (min 20001 n * f) ≡ min 20001 (n * f)
  size_times n zero = omega arith
  size_times n (suc f) = elim (cases_lt n 20001) [
    | inl lt ↦ ap (λ x. min 20001 (x * suc f)) (let e : min 20001 n ≡ n = omega arith in e)
    | inr le ↦ ap (λ x. min 20001 (x * suc f)) (let e : min 20001 n ≡ 20001 = omega arith in
        e) ∙ (let e : min 20001 (20001 * suc f) ≡ min 20001 (n * suc f) = omega arith in e)
  ]

  pub repeat_stands : (l : SizedNode) (n : Node) (k : ℕ) (p : Meant) (least : ℕ) (most : Option ℕ) (factor : ℕ)
      → k ≡ min 20001 (l.size * factor)
      → ((all : List (List Bool)) → IsSame (pattern all n) (repeat (pattern all l.node) least most)) → Stands sets l p
      → Stands sets (part n k) (repeats p least most factor)
  repeat_stands l n k p least most factor is same h = record {
    same = λ all later. same_trans _ _ _ (same all) (same_repeat _ _ least most (h.same all later));
    size = is ∙ ap (λ x. min 20001 (x * factor)) h.size ∙ size_times p.1 factor;
  }

  pub nothing_stands : Stands sets (part Empty 0) nothing
  nothing_stands = record { same = λ all later. same_refl empty; size = omega arith }

  -- the last item joins the pieces
  abbrev pub Flushes : SizedNode → Option SizedNode → SizedNode → Type 0
  Flushes pieces l r = (p : Meant) (m : Option Meant) → Stands sets pieces p → StandsAny sets l m
      → Stands sets r (flush p m)

  pub flush_none : (pieces : SizedNode) (l : Option SizedNode) → l ≡ None → Flushes pieces l pieces
  flush_none pieces None is = λ p m h g. none p m h g where
    none : (p : Meant) (m : Option Meant) → Stands sets pieces p → StandsAny sets None m
        → Stands sets pieces (flush p m)
    none p None h g = h
    none p (Some q) h g = absurd g
  flush_none pieces (Some x) is = absurd (cc)

  pub flush_some : (pieces : SizedNode) (l : Option SizedNode) (x r : SizedNode) → l ≡ Some x
      → ((p q : Meant) → Stands sets pieces p → Stands sets x q → Stands sets r (cats p q)) → Flushes pieces l r
  flush_some pieces l x r is cats_stand = λ p m h g. some p m h (subst (λ y. StandsAny sets y m) is g) where
    some : (p : Meant) (m : Option Meant) → Stands sets pieces p → StandsAny sets (Some x) m → Stands sets r (flush p m)
    some p None h g = absurd g
    some p (Some q) h g = cats_stand p q h g

  module _ (f : code_frame.Frame) where
    pub finish_none : (branch : SizedNode) (m : Frame) → f.before ≡ None → Flushes f.pieces f.last branch
        → IsFrame sets f m → Stands sets branch (finished m)
    finish_none branch (frame None p l) is flushes h = flushes p l h.1 h.2
    finish_none branch (frame (Some a) p l) is flushes h = absurd (subst (λ y. StandsAny sets y (Some a)) is h.0)

    pub finish_some : (branch x r : SizedNode) (m : Frame) → f.before ≡ Some x → Flushes f.pieces f.last branch
        → ((p q : Meant) → Stands sets x p → Stands sets branch q → Stands sets r (alts p q)) → IsFrame sets f m
        → Stands sets r (finished m)
    finish_some branch x r (frame None p l) is flushes alts_stand h = absurd (subst (λ y. StandsAny sets y None) is h.0)
    finish_some branch x r (frame (Some a) p l) is flushes alts_stand h =
        alts_stand a (flush p l) (subst (λ y. StandsAny sets y (Some a)) is h.0) (flushes p l h.1 h.2)

    pub item_frame : (pieces item : SizedNode) (m : Frame) (p : Meant) → Flushes f.pieces f.last pieces
        → IsFrame sets f m → Stands sets item p
        → IsFrame sets (record { before = f.before; pieces = pieces; last = Some item }) (with_last m p)
    item_frame pieces item (frame b q l) p flushes h g = (h.0, flushes q l h.1 h.2, g)

    pub anchor_frame : (pieces both : SizedNode) (n : Node) (m : Frame) (p : Pattern) → Flushes f.pieces f.last pieces
        → ((x y : Meant) → Stands sets pieces x → Stands sets (part n 1) y → Stands sets both (cats x y))
        → IsFrame sets f m → ((all : List (List Bool)) → IsSame (pattern all n) p)
        → IsFrame sets (record { before = f.before; pieces = both; last = None }) (with_anchor m p)
    anchor_frame pieces both n (frame b q l) p flushes cats_stand h same = (
      h.0,
      cats_stand (flush q l) (p, 1) (flushes q l h.1 h.2) (record {
        same = λ all later. same all;
        size =
            omega arith;
      }),
      tt,
    )

    pub bar_frame : (whole : SizedNode) (m : Frame) → Stands sets whole (finished m)
        → IsFrame sets (record { before = Some whole; pieces = part Empty 0; last = None }) (with_bar m)
    bar_frame whole m h = (h, nothing_stands, tt)

  pub fresh_frame : IsFrame sets (record { before = None; pieces = part Empty 0; last = None }) fresh
  fresh_frame = (tt, nothing_stands, tt)

  bytes_same : (t u : ℕ → Bool) → ((b : ℕ) → t b ≡ u b) → IsSame (bytes t) (bytes u)
  bytes_same t u e = record { to = λ s i j m. (m.0, sym (e _) ∙ m.1, m.2); from = λ s i j m. (m.0, e _ ∙ m.1, m.2) }

  -- an atom of the code is a test
  atom_test : (class : Class) (t : spec.Token) → IsAtom sets class t → (test : ℕ → Bool) × (t ≡ spec.atom (bytes test))
      × Stands sets (part (Bytes class) 1) (bytes test, 1)
  atom_test (One c) t h = (
    λ b. b == c,
    h,
    record {
      same = λ all later. same_refl (bytes (λ b. b == c));
      size =
          omega arith;
    },
  )
  atom_test Any t h = (λ b. true, h, record { same = λ all later. same_refl (bytes (λ b. true)); size = omega arith })
  atom_test (In k) t (test, is, same) =
      (test, is, record { same = λ all later. bytes_same (holds all (In k)) test (same all later); size = omega arith })

  module _ (items : List code_frame.Frame) (top r : code_frame.Frame) (t : spec.Token) (os : List Frame) (f : Frame)
      (around : AreFrames sets items os) (inner : IsFrame sets top f) where
    moved : (u : spec.Token) → t ≡ u → IsStack sets items r (taken u os f) → IsStack sets items r (taken t os f)
    moved u is h = subst (λ x. IsStack sets items r (taken x os f)) (sym is) h

    pub take_atom : (class : Class) → ((m : Frame) (p : Meant) → IsFrame sets top m
        → Stands sets (part (Bytes class) 1) p → IsFrame sets r (with_last m p)) → IsAtom sets class t
        → IsStack sets items r (taken t os f)
    take_atom class step h =
        let (test, is, stands) = atom_test class t h in
        moved (spec.atom (bytes test)) is (around, step f (bytes test, 1) inner stands)

    pub take_anchor : (p : Pattern) → ((m : Frame) → IsFrame sets top m → IsFrame sets r (with_anchor m p))
        → t ≡ spec.anchor p → IsStack sets items r (taken t os f)
    take_anchor p step is = moved (spec.anchor p) is (around, step f inner)

    pub take_bar : ((m : Frame) → IsFrame sets top m → IsFrame sets r (with_bar m)) → t ≡ spec.bar
        → IsStack sets items r (taken t os f)
    take_bar step is = moved spec.bar is (around, step f inner)

    pub take_times : (least : ℕ) (most : Option ℕ) (factor : ℕ) → ((b : Option Meant) (p q : Meant)
        → IsFrame sets top (frame b p (Some q)) → IsFrame sets r (frame b p (Some (repeats q least most factor))))
        → t ≡ spec.times least most factor → IsStack sets items r (taken t os f)
    take_times least most factor step is = moved (spec.times least most factor) is (by_frame f inner) where
      by_frame : (f : Frame) → IsFrame sets top f → IsStack sets items r (taken (spec.times least most factor) os f)
      by_frame (frame b p None) h = tt
      by_frame (frame b p (Some q)) h = (around, step b p q h)

    pub take_opening : (new : List code_frame.Frame) → new ≡ items ++ top ∷ [] → IsFrame sets r fresh → t ≡ spec.opening
        → IsStack sets new r (taken t os f)
    take_opening new grown h is = subst (λ x. IsStack sets new r (taken x os f)) (sym is)
        ((items, top, grown, inner, around), h)

snoc_last : (xs ys : List code_frame.Frame) (x y : code_frame.Frame) → xs ++ x ∷ [] ≡ ys ++ y ∷ [] → (xs ≡ ys) × (x ≡ y)
snoc_last [] [] x y e = (refl, cc)
snoc_last [] (b ∷ []) x y e = absurd (cc)
snoc_last [] (b ∷ c ∷ ys) x y e = absurd (cc)
snoc_last (a ∷ []) [] x y e = absurd (cc)
snoc_last (a ∷ c ∷ xs) [] x y e = absurd (cc)
snoc_last (a ∷ xs) (b ∷ ys) x y e =
    let rest : xs ++ x ∷ [] ≡ ys ++ y ∷ [] = cc in
    let head : a ≡ b = cc in
    let f = snoc_last xs ys x y rest in
    (ap (λ z. z ∷ xs) head ∙ ap (λ zs. b ∷ zs) f.0, f.1)

not_empty : (xs : List code_frame.Frame) (x : code_frame.Frame) → [] ≡ xs ++ x ∷ [] → ⊥
not_empty [] x e = cc
not_empty (y ∷ ys) x e = cc

module _ (sets : List (List Bool)) (r : code_frame.Frame) (t : spec.Token) (is : t ≡ spec.closing) (f : Frame) where
  pub take_stray : (items : List code_frame.Frame) (os : List Frame) → items ≡ [] → AreFrames sets items os
      → IsStack sets items r (taken t os f)
  take_stray items os none around = subst (λ x. IsStack sets items r (taken x os f)) (sym is) (by_groups os around)
    where
      by_groups : (os : List Frame) → AreFrames sets items os → IsStack sets items r (taken spec.closing os f)
      by_groups [] h = tt
      by_groups (o ∷ os) h = absurd (not_empty h.0 h.1 (sym none ∙ h.2))

  pub take_closing : (items new : List code_frame.Frame) (outer top : code_frame.Frame) (os : List Frame)
      → items ≡ new ++ outer ∷ [] → AreFrames sets items os → IsFrame sets top f
      → ((m : Frame) → IsFrame sets outer m → IsFrame sets r (with_last m (finished f)))
      → IsStack sets new r (taken t os f)
  take_closing items new outer top os same around inner step = subst (λ x. IsStack sets new r (taken x os f)) (sym is)
      (by_groups os around) where
        by_groups : (os : List Frame) → AreFrames sets items os → IsStack sets new r (taken spec.closing os f)
        by_groups [] h = tt
        by_groups (o ∷ os) (front, last, e, top_is, rest) =
            let g = snoc_last front new last outer (sym e ∙ same) in
            (subst (λ x. AreFrames sets x os) g.0 rest, step o (subst (λ x. IsFrame sets x o) g.1 top_is))
