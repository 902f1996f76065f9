-- Each kind of part that the compiler adds.
use Rattle.std.proofs.Common.{◌≡◌, ◌≢◌, ℕ, zero, suc, ◌+◌, ◌<◌, inl, inr, Bool, List, [], ◌∷◌, ◌++◌, length, Option}
use Rattle.std.proofs.Common.{Some, None, option_map, refl, sym, ◌∙◌, ap, subst, arith}
use Rattle.std.proofs.Math.ListN.{set, length-set}
use Rattle.std.specs.List.{slice_get}
use Rattle.std.proofs.lemmas.Option.{slice_get_within}
use Rattle.std.proofs.lemmas.List.{length_push}
use Rattle.std.proofs.lemmas.Bool.{cases_eq}
use Rattle.awk_ere.specs.Pattern.{Pattern, empty, bytes, start, finish, cat, alt, repeat}
use Rattle.awk_ere.specs.Program.{holds, times, IsReal, Extends, Means, IsSound, Grows, NamesBelow, Compiles, Copies}
use Rattle.awk_ere.specs.Program.{Joins, IsReady}
use Rattle.awk_ere.specs.declared.program.Instruction.{Instruction}
use Rattle.awk_ere.specs.declared.token.Class.{Class}
use Rattle.awk_ere.specs.declared.program.Instruction.TheVariants.{Eat, Fork, AtStart, AtEnd, Hole}
use Rattle.awk_ere.proofs.Programs.{Grows-refl, Grows-trans, Grows-push, slice_get-push_last, slice_get-push_left}
use Rattle.awk_ere.proofs.Programs.{NamesBelow-more, IsSound-push}
use Rattle.awk_ere.proofs.Meaning.{Means-grows, Means-extends, means_empty, means_bytes, means_start, means_finish}
use Rattle.awk_ere.proofs.Meaning.{means_cat, means_alt, means_regroup, means_star, means_option, means_no_option}
use Rattle.awk_ere.proofs.Meaning.{means_repeat}

-- one step more
pushed : (old : List Instruction) (x : Instruction) (p : List (List Bool) → Pattern) (next : ℕ) → IsReady old next
    → NamesBelow (length old) x → ((sets : List (List Bool)) → Means sets (old ++ x ∷ []) (length old) (p sets) next)
    → Compiles old (old ++ x ∷ []) (length old) p next
pushed old x p next ready names means = record {
  sound = IsSound-push old x ready.sound names;
  grows = Grows-push old x;
  below = omega (arith, length_push old x);
  means = means;
}

pub compiles_empty : (old : List Instruction) (next : ℕ) → IsReady old next → Compiles old old next (λ _. empty) next
compiles_empty old next ready = record {
  sound = ready.sound;
  grows = Grows-refl old;
  below = ready.below;
  means =
      λ sets. means_empty sets old next;
}

pub compiles_bytes : (old : List Instruction) (k : Class) (next : ℕ) → IsReady old next
    → Compiles old (old ++ Eat k next ∷ []) (length old) (λ sets. bytes (holds sets k)) next
compiles_bytes old k next ready = pushed old (Eat k next) _ next ready ready.below
    (λ sets. means_bytes sets _ (length old) k next (slice_get-push_last old _))

pub compiles_start : (old : List Instruction) (next : ℕ) → IsReady old next
    → Compiles old (old ++ AtStart next ∷ []) (length old) (λ _. start) next
compiles_start old next ready = pushed old (AtStart next) _ next ready ready.below
    (λ sets. means_start sets _ (length old) next (slice_get-push_last old _))

pub compiles_finish : (old : List Instruction) (next : ℕ) → IsReady old next
    → Compiles old (old ++ AtEnd next ∷ []) (length old) (λ _. finish) next
compiles_finish old next ready = pushed old (AtEnd next) _ next ready ready.below
    (λ sets. means_finish sets _ (length old) next (slice_get-push_last old _))

pub ready_after : (old new : List Instruction) (e next : ℕ) (p : List (List Bool) → Pattern) → Compiles old new e p next
    → IsReady new e
ready_after old new e next p h = record { sound = h.sound; below = h.below }

pub ready_still : (old new : List Instruction) (e next n : ℕ) (p : List (List Bool) → Pattern)
    → Compiles old new e p next → n < length old → IsReady new n
ready_still old new e next n p h lt = record { sound = h.sound; below = omega (arith, h.grows.longer) }

pub compiles_cat : (a b c : List Instruction) (e middle next : ℕ) (p q : List (List Bool) → Pattern)
    → Compiles a b middle q next → Compiles b c e p middle → Compiles a c e (λ sets. cat (p sets) (q sets)) next
compiles_cat a b c e middle next p q r l = record {
  sound = l.sound;
  grows = Grows-trans r.grows l.grows;
  below = l.below;
  means = λ sets. means_cat sets c e middle next (p sets) (q sets) (l.means sets)
      (Means-grows sets b c middle (q sets) next l.grows (r.means sets));
}

-- one alternative, before the others
pub joins_one : (a b : List Instruction) (x others next : ℕ) (p : List (List Bool) → Pattern) → others < length a
    → Compiles a b x p next → Joins a (b ++ Fork x others ∷ []) (length b) p others next
joins_one a b x others next p lt one = record {
  sound = IsSound-push b (Fork x others) one.sound (one.below, omega (arith, one.grows.longer));
  grows = Grows-trans one.grows (Grows-push b (Fork x others));
  below = omega (arith, length_push b (Fork x others));
  means = λ sets q h. means_alt sets (b ++ Fork x others ∷ []) (length b) x others next (p sets) q
      (slice_get-push_last b _)
      (Means-grows sets b _ x (p sets) next (Grows-push b _) (one.means sets)) (Means-grows sets a _ others q next
      (Grows-trans one.grows (Grows-push b _)) h);
}

pub joins_more : (a b c : List Instruction) (e middle others next : ℕ) (p q : List (List Bool) → Pattern)
    → Joins a b middle q others next → Joins b c e p middle next
    → Joins a c e (λ sets. alt (p sets) (q sets)) others next
joins_more a b c e middle others next p q r l = record {
  sound = l.sound;
  grows = Grows-trans r.grows l.grows;
  below = l.below;
  means = λ sets o h. means_regroup sets c e next (p sets) (q sets) o
      (l.means sets (alt (q sets) o) (r.means sets o h));
}

pub ready_joined : (old new : List Instruction) (e others next : ℕ) (p : List (List Bool) → Pattern)
    → Joins old new e p others next → next < length old → IsReady new next
ready_joined old new e others next p h lt = record { sound = h.sound; below = omega (arith, h.grows.longer) }

pub compiles_alt : (a b c : List Instruction) (e others next : ℕ) (p q : List (List Bool) → Pattern)
    → Compiles a b others q next → Joins b c e p others next → Compiles a c e (λ sets. alt (p sets) (q sets)) next
compiles_alt a b c e others next p q r l = record {
  sound = l.sound;
  grows = Grows-trans r.grows l.grows;
  below = l.below;
  means = λ sets. l.means sets (q sets) (r.means sets);
}

-- a hole that is filled
slice_get-set_same : (a : List Instruction) (x : Instruction) (q : ℕ) → q < length a → slice_get (set a q x) q ≡ Some x
slice_get-set_same [] x q lt = absurd (omega arith)
slice_get-set_same (y ∷ ys) x zero lt = refl
slice_get-set_same (y ∷ ys) x (suc q) lt = slice_get-set_same ys x q (omega arith)

slice_get-set_other : (a : List Instruction) (x : Instruction) (q r : ℕ) → r ≢ q
    → slice_get (set a q x) r ≡ slice_get a r
slice_get-set_other [] x q r ne = refl
slice_get-set_other (y ∷ ys) x zero zero ne = absurd (ne refl)
slice_get-set_other (y ∷ ys) x zero (suc r) ne = refl
slice_get-set_other (y ∷ ys) x (suc q) zero ne = refl
slice_get-set_other (y ∷ ys) x (suc q) (suc r) ne = slice_get-set_other ys x q r (λ e. ne (ap suc e))

module _ (a b : List Instruction) (x next : ℕ) (p : List (List Bool) → Pattern) (ready : IsReady a next)
    (inner : Compiles (a ++ Hole ∷ []) b x p (length a)) where
  abbrev pub filled : List Instruction
  filled = set b (length a) (Fork x next)

  was_hole : slice_get b (length a) ≡ Some Hole
  was_hole = inner.grows.kept (length a) (omega (arith, length_push a Hole)) ∙ slice_get-push_last a Hole

  fork_names : NamesBelow (length b) (Fork x next)
  fork_names = (inner.below, omega (arith, inner.grows.longer, length_push a Hole, ready.below))

  filled_sound : IsSound filled
  filled_sound = record {
    names = λ q y e. elim (cases_eq q (length a)) [
      | inl same ↦
          let f = slice_get-set_same b (Fork x next) (length a) (slice_get_within b _ _ was_hole) in
          let g = ap (λ n. slice_get filled n) same in
          let h : y ≡ Fork x next = cc (e, f, g) in
          subst (λ z. NamesBelow (length filled) z) (sym h) (NamesBelow-more (length b) (length filled) (Fork x next)
          (omega (arith, length-set {A = Instruction})) fork_names)
      | inr other ↦ NamesBelow-more (length b) (length filled) y (omega (arith, length-set {A = Instruction}))
          (inner.sound.names q y (sym (slice_get-set_other b (Fork x next) (length a) q other) ∙ e))
    ];
  }

  filled_extends : Extends b filled
  filled_extends = λ q y real e. elim (cases_eq q (length a)) [
    | inl same ↦ absurd (no_hole q y real e same)
    | inr other ↦ slice_get-set_other b (Fork x next) (length a) q other ∙ e
  ] where
    no_hole : (q : ℕ) (y : Instruction) → IsReal y → slice_get b q ≡ Some y → q ≡ length a → ⊥
    no_hole q y real e same =
        let f = ap (λ n. slice_get b n) same in let g = was_hole in
        let h : y ≡ Hole = cc in subst IsReal h real

  filled_grows : Grows a filled
  filled_grows = record {
    longer = omega (arith, inner.grows.longer, length_push a Hole, length-set {A = Instruction});
    kept = λ q lt.
        slice_get-set_other b (Fork x next) (length a) q (let ne : q ≢ length a = omega arith in ne)
        ∙ inner.grows.kept q (omega (arith, length_push a Hole)) ∙ slice_get-push_left a Hole q lt;
  }

  pub compiles_star : Compiles a filled (length a) (λ sets. repeat (p sets) 0 None) next
  compiles_star = record {
    sound = filled_sound;
    grows = filled_grows;
    below = omega (arith, inner.grows.longer, length_push a Hole, length-set {A = Instruction});
    means = λ sets.
        means_star sets filled (length a) x next (p sets)
        (slice_get-set_same b (Fork x next) (length a) (slice_get_within b _ _ was_hole))
        (Means-extends sets b filled x (p sets) (length a) filled_extends (inner.means sets));
  }

  -- the body first
  pub compiles_plus : Compiles a filled x (λ sets. cat (p sets) (repeat (p sets) 0 None)) next
  compiles_plus = record {
    sound = filled_sound;
    grows = filled_grows;
    below = omega (arith, inner.below, length-set {A = Instruction});
    means = λ sets.
        means_cat sets filled x (length a) next (p sets) (repeat (p sets) 0 None)
        (Means-extends sets b filled x (p sets) (length a) filled_extends (inner.means sets))
        (compiles_star.means sets);
  }

pub compiles_no_option : (a : List Instruction) (next : ℕ) (p : List (List Bool) → Pattern) → IsReady a next
    → Compiles a a next (λ sets. repeat (p sets) 0 (Some 0)) next
compiles_no_option a next p ready = record {
  sound = ready.sound;
  grows = Grows-refl a;
  below = ready.below;
  means =
      λ sets. means_no_option sets a next (p sets);
}

pub compiles_option : (a b c : List Instruction) (x middle next n m : ℕ) (p : List (List Bool) → Pattern)
    → next < length a → m ≡ suc n → Compiles a b middle (λ sets. repeat (p sets) 0 (Some n)) next
    → Compiles b c x p middle → Compiles a (c ++ Fork x next ∷ []) (length c) (λ sets. repeat (p sets) 0 (Some m)) next
compiles_option a b c x middle next n m p lt is rest inner = record {
  sound = IsSound-push c (Fork x next) inner.sound (inner.below, omega (arith, rest.grows.longer, inner.grows.longer));
  grows = Grows-trans (Grows-trans rest.grows inner.grows) (Grows-push c (Fork x next));
  below = omega (arith, length_push c (Fork x next));
  means = λ sets. subst (λ k. Means sets (c ++ Fork x next ∷ []) (length c) (repeat (p sets) 0 (Some k)) next) (sym is)
      (means_option sets (c ++ Fork x next ∷ []) (length c) x next (p sets) (slice_get-push_last c _) n middle
      (Means-grows sets c _ x (p sets) middle (Grows-push c _) (inner.means sets))
      (Means-grows sets b _ middle (repeat (p sets) 0 (Some n)) next (Grows-trans inner.grows (Grows-push c _))
      (rest.means sets)));
}

pub copies_none : (a : List Instruction) (next : ℕ) (p : List (List Bool) → Pattern) → IsReady a next
    → Copies a a next p 0 next
copies_none a next p ready = record {
  sound = ready.sound;
  grows = Grows-refl a;
  below = ready.below;
  means =
      λ sets q last h. h;
}

pub copies_more : (a b c : List Instruction) (e middle next n m : ℕ) (p : List (List Bool) → Pattern) → m ≡ suc n
    → Copies a b middle p n next → Compiles b c e p middle → Copies a c e p m next
copies_more a b c e middle next n m p is rest one = record {
  sound = one.sound;
  grows = Grows-trans rest.grows one.grows;
  below = one.below;
  means = λ sets q last h. subst (λ k. Means sets c e (times k (p sets) q) last) (sym is)
      (means_cat sets c e middle last (p sets) (times n (p sets) q) (one.means sets)
      (Means-grows sets b c middle (times n (p sets) q) last one.grows (rest.means sets q last h)));
}

pub ready_copies : (old new : List Instruction) (e next n : ℕ) (p : List (List Bool) → Pattern)
    → Copies old new e p n next → IsReady new e
ready_copies old new e next n p h = record { sound = h.sound; below = h.below }

pub compiles_repeat : (a b c : List Instruction) (e middle next n : ℕ) (more : Option ℕ) (p : List (List Bool)
    → Pattern) → Compiles a b middle (λ sets. repeat (p sets) 0 more) next → Copies b c e p n middle
    → Compiles a c e (λ sets. repeat (p sets) n (option_map (λ m. n + m) more)) next
compiles_repeat a b c e middle next n more p rest copies = record {
  sound = copies.sound;
  grows = Grows-trans rest.grows copies.grows;
  below = copies.below;
  means = λ sets. means_repeat sets c e next (p sets) n more (copies.means sets (repeat (p sets) 0 more) next
      (rest.means sets));
}

times_last : (n : ℕ) (p q : Pattern) → times n p (cat p q) ≡ times (suc n) p q
times_last zero p q = refl
times_last (suc n) p q = ap (λ r. cat p r) (times_last n p q)

pub compiles_more : (a b c : List Instruction) (e middle next n m : ℕ) (p : List (List Bool) → Pattern) → m ≡ suc n
    → Compiles a b middle (λ sets. cat (p sets) (repeat (p sets) 0 None)) next → Copies b c e p n middle
    → Compiles a c e (λ sets. repeat (p sets) m None) next
compiles_more a b c e middle next n m p is rest copies = record {
  sound = copies.sound;
  grows = Grows-trans rest.grows copies.grows;
  below = copies.below;
  means = λ sets. subst (λ k. Means sets c e (repeat (p sets) k None) next) (sym is)
      (means_repeat sets c e next (p sets) (suc n) None
      (subst (λ r. Means sets c e r next) (times_last n (p sets) (repeat (p sets) 0 None))
      (copies.means sets (cat (p sets) (repeat (p sets) 0 None)) next (rest.means sets))));
}

pub ready_hole : (a : List Instruction) (next : ℕ) → IsReady a next → IsReady (a ++ Hole ∷ []) (length a)
ready_hole a next ready = record {
  sound = IsSound-push a Hole ready.sound tt;
  below =
      omega (arith, length_push a Hole);
}
