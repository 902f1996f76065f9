-- How a program grows, and what leads away from a step.
use Rattle.std.proofs.Common.{◌≡◌, ℕ, zero, suc, ◌<◌, ◌≤◌, ◌⊎◌, inl, inr, Bool, true, List, [], ◌∷◌, ◌++◌, length, Some}
use Rattle.std.proofs.Common.{refl, sym, ◌∙◌, ap, subst, arith}
use Rattle.std.specs.List.{slice_get}
use Rattle.std.proofs.lemmas.Option.{slice_get_within}
use Rattle.std.proofs.lemmas.List.{length_push}
use Rattle.std.proofs.lemmas.Bool.{cases_lt}
use Rattle.awk_ere.specs.Program.{Skips, left, right, at_start, at_end, Extends, NamesBelow, IsSound, Grows}
use Rattle.awk_ere.specs.declared.program.Instruction.{Instruction}
use Rattle.awk_ere.specs.declared.token.Class.{Class}
use Rattle.awk_ere.specs.declared.program.Instruction.TheVariants.{Eat, Fork, AtStart, AtEnd, Done, Hole}

pub Grows-refl : (a : List Instruction) → Grows a a
Grows-refl a = record { longer = omega arith; kept = λ q lt. refl }

pub Grows-trans : {a b c : List Instruction} → Grows a b → Grows b c → Grows a c
Grows-trans g h = record { longer = omega arith; kept = λ q lt. h.kept q (omega arith) ∙ g.kept q lt }

pub Grows-extends : (a b c : List Instruction) → Grows a b → Extends b c → Extends a c
Grows-extends a b c g h = λ q x real e. h q x real (g.kept q (slice_get_within a q x e) ∙ e)

pub slice_get-push_left : (a : List Instruction) (x : Instruction) (q : ℕ) → q < length a
    → slice_get (a ++ x ∷ []) q ≡ slice_get a q
slice_get-push_left [] x q lt = absurd (omega arith)
slice_get-push_left (y ∷ ys) x zero lt = refl
slice_get-push_left (y ∷ ys) x (suc q) lt = slice_get-push_left ys x q (omega arith)

pub slice_get-push_last : (a : List Instruction) (x : Instruction) → slice_get (a ++ x ∷ []) (length a) ≡ Some x
slice_get-push_last [] x = refl
slice_get-push_last (y ∷ ys) x = slice_get-push_last ys x

pub Grows-push : (a : List Instruction) (x : Instruction) → Grows a (a ++ x ∷ [])
Grows-push a x = record { longer = omega (arith, length_push a x); kept = λ q lt. slice_get-push_left a x q lt }

pub NamesBelow-more : (n m : ℕ) (x : Instruction) → n ≤ m → NamesBelow n x → NamesBelow m x
NamesBelow-more n m (Eat k r) le h = omega arith
NamesBelow-more n m (Fork a b) le h = (omega arith, omega arith)
NamesBelow-more n m (AtStart r) le h = omega arith
NamesBelow-more n m (AtEnd r) le h = omega arith
NamesBelow-more n m Done le h = tt
NamesBelow-more n m Hole le h = tt

pub IsSound-push : (a : List Instruction) (x : Instruction) → IsSound a → NamesBelow (length a) x
    → IsSound (a ++ x ∷ [])
IsSound-push a x sound below = record {
  names = λ q y e.
      let inside : q < length (a ++ x ∷ []) = slice_get_within (a ++ x ∷ []) q y e in
      let longer : length a ≤ length (a ++ x ∷ []) = omega (arith, length_push a x) in
      elim (cases q inside) [
        | inl lt ↦ NamesBelow-more (length a) _ y longer (sound.names q y (sym (slice_get-push_left a x q lt) ∙ e))
        | inr is ↦ NamesBelow-more (length a) _ y longer (let same : y ≡ x = same_last q y e is in
            subst (λ z. NamesBelow (length a) z) (sym same) below)
      ];
} where
  cases : (q : ℕ) → q < length (a ++ x ∷ []) → (q < length a) ⊎ (q ≡ length a)
  cases q lt = elim (cases_lt q (length a)) [
    | inl before ↦ inl before
    | inr beyond ↦ inr
        (omega (arith, length_push a x))
  ]

  same_last : (q : ℕ) (y : Instruction) → slice_get (a ++ x ∷ []) q ≡ Some y → q ≡ length a → y ≡ x
  same_last q y e is = let f = slice_get-push_last a x in let g = ap (λ n. slice_get (a ++ x ∷ []) n) is in cc

-- what can follow each kind of step
module _ (program : List Instruction) (first last : Bool) (q p : ℕ) where
  pub skips_fork : (a b : ℕ) → slice_get program q ≡ Some (Fork a b) → Skips program first last q p → (p ≡ a) ⊎ (p ≡ b)
  skips_fork a b e (left other h) = inl (cc)
  skips_fork a b e (right other h) = inr (cc)
  skips_fork a b e (at_start h f) = absurd (cc)
  skips_fork a b e (at_end h f) = absurd (cc)

  pub skips_start : (r : ℕ) → slice_get program q ≡ Some (AtStart r) → Skips program first last q p → (p ≡ r)
      × (first ≡ true)
  skips_start r e (left other h) = absurd (cc)
  skips_start r e (right other h) = absurd (cc)
  skips_start r e (at_start h f) = (cc, f)
  skips_start r e (at_end h f) = absurd (cc)

  pub skips_end : (r : ℕ) → slice_get program q ≡ Some (AtEnd r) → Skips program first last q p → (p ≡ r)
      × (last ≡ true)
  skips_end r e (left other h) = absurd (cc)
  skips_end r e (right other h) = absurd (cc)
  skips_end r e (at_start h f) = absurd (cc)
  skips_end r e (at_end h f) = (cc, f)

  pub skips_eat : (k : Class) (r : ℕ) → slice_get program q ≡ Some (Eat k r) → Skips program first last q p → ⊥
  skips_eat k r e (left other h) = cc
  skips_eat k r e (right other h) = cc
  skips_eat k r e (at_start h f) = cc
  skips_eat k r e (at_end h f) = cc

  pub skips_done : slice_get program q ≡ Some Done → Skips program first last q p → ⊥
  skips_done e (left other h) = cc
  skips_done e (right other h) = cc
  skips_done e (at_start h f) = cc
  skips_done e (at_end h f) = cc
