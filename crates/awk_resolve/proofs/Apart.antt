-- Texts of which each stands once.
use Rattle.std.proofs.Common.{◌≡◌, ◌∙◌, ℕ, zero, suc, ◌<◌, ◌≤◌, Bool, true, false, ◌||◌, List, [], ◌∷◌, ◌++◌, None}
use Rattle.std.proofs.Common.{length, get_or, position, if◌then◌else◌, ap, sym, refl, subst, inl, inr, append-nil}
use Rattle.std.proofs.Common.{append_assoc, arith}
use Rattle.std.specs.List.{list_any}
use Rattle.std.specs.Str.{bytes_eq}
use Rattle.std.proofs.lemmas.Slice.Eq.{bytes_eq-Decides}
use Rattle.std.proofs.lemmas.Bool.{cases_lt}
use Rattle.std.proofs.lemmas.Bool.Decides.{not_from_Decides}
use Rattle.std.proofs.lemmas.List.Folds.{list_any_at, list_any-append}
use Rattle.awk_program.specs.Slots.{Text, slot_of, name_of}
use Rattle.awk_program.specs.declared.variables.Own.{Own}
use Rattle.awk_program.specs.declared.variables.Own.TheVariants as o
use Rattle.awk_resolve.specs.Kinds.{scalars, arrays}
use Rattle.awk_resolve.specs.declared.mention.Section.{Section}
use Rattle.awk_resolve.specs.Rolls.{added}
use Rattle.awk_resolve.proofs.Rolls.{none_among}
use Rattle.awk_resolve.specs.Tables.{behind, mentioned, variables}
use Rattle.awk_resolve.specs.Sound.{IsOnce, Sound}

abbrev Apart : List Text → Type 0
Apart [] = Unit {0}
Apart (x ∷ xs) = (list_any (bytes_eq x) xs ≡ false) × Apart xs

false_not_true : (b : Bool) → b ≡ false → b ≡ true → ⊥
false_not_true b e f = cc

differ : (x y : Text) → bytes_eq x y ≡ false → bytes_eq y x ≡ false
differ x y e = by (bytes_eq y x) refl
  where
    by : (b : Bool) → bytes_eq y x ≡ b → b ≡ false
    by false f = refl
    by true f = absurd (not_from_Decides (bytes_eq x y) (bytes_eq-Decides x y) e (sym ((bytes_eq-Decides y x).0 f)))

or_false : (a b : Bool) → (a || b) ≡ false → (a ≡ false) × (b ≡ false)
or_false false b e = (refl, e)
or_false true b e = absurd cc

apart_push : (xs : List Text) (y : Text) → Apart xs → list_any (bytes_eq y) xs ≡ false → Apart (xs ++ y ∷ [])
apart_push [] y h e = (refl, tt)
apart_push (x ∷ xs) y h e =
    let both = or_false (bytes_eq y x) (list_any (bytes_eq y) xs) e in
    (list_any-append (bytes_eq x) xs (y ∷ []) ∙ rw (h.0, differ y x both.0) refl, apart_push xs y h.1 both.1)

apart_added : (x : Text) (xs : List Text) → Apart xs → Apart (added x xs)
apart_added x xs h = by (list_any (bytes_eq x) xs) refl
  where
    by : (b : Bool) → list_any (bytes_eq x) xs ≡ b → Apart (if b then xs else xs ++ x ∷ [])
    by true e = h
    by false e = apart_push xs x h e

apart_behind : (old xs : List Text) → Apart old → Apart (behind old xs)
apart_behind old [] h = h
apart_behind old (x ∷ xs) h = apart_behind (added x old) xs (apart_added x old h)

own_apart : Apart (scalars ++ arrays)
own_apart = (
  refl,
  (
    refl,
    (refl, (refl, (refl, (refl, (refl, (refl, (refl, (refl, (refl, (refl, (refl, (refl, (refl, (refl, tt)))))))))))))),
  ),
)

-- ---- by place

not_there : (x : Text) (xs : List Text) (k : ℕ) → list_any (bytes_eq x) xs ≡ false → k < length xs → x ≡ get_or xs k []
    → ⊥
not_there x xs k e h is = false_not_true (list_any (bytes_eq x) xs) e (list_any_at (bytes_eq x) xs k [] h
    ((bytes_eq-Decides x (get_or xs k [])).1 is))

one_place : (xs : List Text) (j k : ℕ) → Apart xs → j < length xs → k < length xs → get_or xs j [] ≡ get_or xs k []
    → j ≡ k
one_place [] j k h i m e = absurd (omega (arith, i))
one_place (x ∷ xs) zero zero h i m e = refl
one_place (x ∷ xs) zero (suc k) h i m e = absurd (not_there x xs k h.0 (omega (arith, m)) e)
one_place (x ∷ xs) (suc j) zero h i m e = absurd (not_there x xs j h.0 (omega (arith, i)) (sym e))
one_place (x ∷ xs) (suc j) (suc k) h i m e =
    ap (λ n. suc n) (one_place xs j k h.1 (omega (arith, i)) (omega (arith, m)) e)

past : (xs : List Text) (k : ℕ) → length xs ≤ k → get_or xs k [] ≡ []
past [] k h = refl
past (x ∷ xs) zero h = absurd (omega (arith, h))
past (x ∷ xs) (suc k) h = past xs k (omega (arith, h))

-- ---- those that stood there stay where they are

added_is : (x : Text) (xs : List Text) → (ys : List Text) × (added x xs ≡ xs ++ ys)
added_is x xs = by (list_any (bytes_eq x) xs)
  where
    by : (b : Bool) → (ys : List Text) × ((if b then xs else xs ++ x ∷ []) ≡ xs ++ ys)
    by true = ([], sym (append-nil xs))
    by false = (x ∷ [], refl)

fresh : (old xs : List Text) → (ys : List Text) × (behind old xs ≡ old ++ ys)
fresh old [] = ([], sym (append-nil old))
fresh old (x ∷ xs) =
    let a = added_is x old in
    let f = fresh (added x old) xs in
    (a.0 ++ f.0, f.1 ∙ ap (λ zs. zs ++ f.0) a.1 ∙ append_assoc old a.0 f.0)

own_slot : (ys : List Text) (x : Own) → get_or ((scalars ++ arrays) ++ ys) (slot_of x) [] ≡ name_of x
own_slot ys o.Argc = refl
own_slot ys o.Convfmt = refl
own_slot ys o.Filename = refl
own_slot ys o.Fnr = refl
own_slot ys o.Fs = refl
own_slot ys o.Nf = refl
own_slot ys o.Nr = refl
own_slot ys o.Ofmt = refl
own_slot ys o.Ofs = refl
own_slot ys o.Ors = refl
own_slot ys o.Rlength = refl
own_slot ys o.Rs = refl
own_slot ys o.Rstart = refl
own_slot ys o.Subsep = refl
own_slot ys o.Argv = refl
own_slot ys o.Environ = refl

once : (xs : List Text) → Apart xs → position (bytes_eq []) xs ≡ None → IsOnce xs
once xs h none = λ j k i e.
    elim (cases_lt k (length xs)) [
      | inl m ↦ one_place xs j k h i m e
      | inr m ↦ absurd (not_there [] xs j (none_among [] xs none) i (sym (e ∙ past xs k m)))
    ]

-- the variables of a script, of which none is empty
pub sound : (parts : List Section) (xs : List Text) → xs ≡ variables parts → position (bytes_eq []) xs ≡ None → Sound xs
sound parts xs e none =
    let f = fresh (scalars ++ arrays) (mentioned parts) in
    record {
      once = once xs (subst Apart (sym e) (apart_behind (scalars ++ arrays) (mentioned parts) own_apart)) none;
      own = λ x. ap (λ ys. get_or ys (slot_of x) []) (e ∙ f.1) ∙ own_slot f.0 x;
    }
