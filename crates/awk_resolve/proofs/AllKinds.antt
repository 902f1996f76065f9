-- The marks of the numbers are the kinds of the names.
use Rattle.std.proofs.Common.{◌≡◌, ◌∙◌, ◌↔◌, ℕ, Bool, true, false, List, [], replicate, refl, sym, ap, Option, Some}
use Rattle.std.proofs.Common.{None, slice_get}
use Rattle.awk_text.specs.declared.place.Place.{Place}
use Rattle.awk_tree.specs.Tree.{Text}
use Rattle.awk_tree.specs.declared.names.Name.{Name}
use Rattle.awk_resolve.specs.Kinds as k
use Rattle.awk_resolve.specs.Kinds.{Kind, Named, global, parameter, Defines, texts, meant, Forced}
use Rattle.awk_resolve.specs.Faults.{Misdefined}
use Rattle.awk_resolve.specs.declared.mention.Section.{Section}
use Rattle.awk_resolve.specs.Numbering as s
use Rattle.awk_resolve.specs.Numbers.{number, is_function}
use Rattle.awk_resolve.specs.Uses as u
use Rattle.awk_resolve.specs.Reached.{Reached}
use Rattle.awk_resolve.specs.Marks.{is_set, is_marked, has, AreKinds, Marks, AreArrays}
use Rattle.awk_resolve.specs.declared.numbers.Numbers.{Numbers}
use Rattle.awk_resolve.specs.declared.uses.Use.{Use}
use Rattle.awk_resolve.specs.declared.kinds.Kinds.{Kinds}
use Rattle.awk_resolve.proofs.Meant.{injective}
use Rattle.awk_resolve.proofs.Kinding.{scalars_mean, arrays_mean, scalars_reached, arrays_reached, function_known}
use Rattle.awk_resolve.proofs.Kinding.{function_found}

mark_true : (marks : List Bool) (o : Option ℕ) → is_marked marks o ≡ true → (n : ℕ) × (o ≡ Some n)
    × (slice_get marks n ≡ Some true)
mark_true marks None e = cc
mark_true marks (Some n) e = (n, refl, by (slice_get marks n) e)
  where
    by : (b : Option Bool) → is_set b ≡ true → b ≡ Some true
    by None h = cc
    by (Some b) h = ap Some h

true_mark : (marks : List Bool) (o : Option ℕ) (n : ℕ) → o ≡ Some n → slice_get marks n ≡ Some true
    → is_marked marks o ≡ true
true_mark marks o n e f = ap (is_marked marks) e ∙ ap is_set f

-- only what an item defines is a function
function_only : (parts : List Section) (a : Named) (kind : Kind) → kind ≡ k.function → Forced parts a kind → (g : Name)
    × (ps : List Name) × Defines parts g ps × (a ≡ global g.text)
function_only parts a kind e (k.own_scalar x c) = absurd (cc)
function_only parts a kind e (k.own_array x c) = absurd (cc)
function_only parts a kind e (k.defined f ps d) = (f, ps, d, refl)
function_only parts a kind e (k.read_or_set p n c d) = absurd (cc)
function_only parts a kind e (k.subscripted p n c d) = absurd (cc)
function_only parts a kind e (k.measured_function p n g ps c d def h) = absurd (cc)
function_only parts a kind e (k.handed_function r f args n g ps c d def h) = absurd (cc)
function_only parts a kind e (k.handed r f args i n q kind2 c d tk forced) =
    let (g, ps, def, same) = function_only parts (parameter f.text q.text) kind e forced in absurd (cc)
function_only parts a kind e (k.measured r f args i n q c d tk asks forced) = absurd (cc)

global_text : (x y : Text) → global x ≡ global y → x ≡ y
global_text x y e = cc

module _ (parts : List Section) (well : (place : Place) → Misdefined parts place → ⊥) where
  abbrev t : Numbers
  t = s.numbers parts

  abbrev us : List Use
  us = u.uses t parts

  abbrev table : List (List ℕ)
  table = u.linked us (replicate t.count [])

  marks_kind : (P : Named → Type 0) (starts : List ℕ) (links : List (List ℕ)) (marks : List Bool)
      → ((n : ℕ) → Reached starts links n → (a : Named) × (number t a ≡ Some n) × P a)
      → ((a : Named) → P a → (n : ℕ) × (number t a ≡ Some n) × Reached starts links n)
      → Marks starts links marks
      → (a : Named) → (is_marked marks (number t a) ≡ true) ↔ P a
  marks_kind P starts links marks right all h a = (forward, back)
    where
      forward : is_marked marks (number t a) ≡ true → P a
      forward e =
          let (n, is, marked) = mark_true marks (number t a) e in
          let (b, numbered, holds) = right n ((h n).0 marked) in
          let same = (injective parts well).one b a n numbered is in
          rw same at holds

      back : P a → is_marked marks (number t a) ≡ true
      back holds = let (n, is, there) = all a holds in true_mark marks (number t a) n is ((h n).1 there)

  functions_kind : (x : Text) → (is_function t x ≡ true) ↔ Forced parts (global x) k.function
  functions_kind x = (forward, back)
    where
      forward : is_function t x ≡ true → Forced parts (global x) k.function
      forward e = let (g, ps, d, same) = function_known parts well x e in rw (← same) (k.defined g ps d)

      back : Forced parts (global x) k.function → is_function t x ≡ true
      back forced =
          let (g, ps, d, same) = function_only parts (global x) k.function refl forced in
          rw (global_text x g.text same) (function_found parts well g ps d)

  no_parameter : (f x : Text) → (false ≡ true) ↔ Forced parts (parameter f x) k.function
  no_parameter f x = (
    (λ e. absurd (cc)),
    (λ forced. let (g, ps, d, same) = function_only parts (parameter f x) k.function refl forced in absurd (cc)),
  )

  pub all_kinds : (c : Kinds) → c.numbers ≡ t → Marks (u.scalars us) table c.scalars → AreArrays us table c.arrays
      → AreKinds parts c
  all_kinds c e hs (measured, are, ha) = by
    where
      scalars_kind : (a : Named) → (is_marked c.scalars (number t a) ≡ true) ↔ Forced parts a k.scalar
      scalars_kind = marks_kind (λ a. Forced parts a k.scalar) (u.scalars us) table c.scalars (scalars_mean parts well)
          (λ a f. scalars_reached parts well a k.scalar refl f) hs

      arrays_kind : (a : Named) → (is_marked c.arrays (number t a) ≡ true) ↔ Forced parts a k.array
      arrays_kind =
          marks_kind (λ a. Forced parts a k.array) (u.arrays us) (u.with_back_links measured us table) c.arrays
          (arrays_mean parts well measured are)
          (λ a f. arrays_reached parts well measured are a k.array refl f) ha

      by : (a : Named) (kind : Kind) → (has c a kind ≡ true) ↔ Forced parts a kind
      by a k.scalar =
          let same : is_marked c.scalars (number c.numbers a) ≡ is_marked c.scalars (number t a) =
          ap (λ z. is_marked c.scalars (number z a)) e in
          ((λ h. (scalars_kind a).0 (sym same ∙ h)), (λ f. same ∙ (scalars_kind a).1 f))
      by a k.array =
          let same : is_marked c.arrays (number c.numbers a) ≡ is_marked c.arrays (number t a) =
          ap (λ z. is_marked c.arrays (number z a)) e in
          ((λ h. (arrays_kind a).0 (sym same ∙ h)), (λ f. same ∙ (arrays_kind a).1 f))
      by (global x) k.function =
          let same : is_function c.numbers x ≡ is_function t x = ap (λ z. is_function z x) e in
          ((λ h. (functions_kind x).0 (sym same ∙ h)), (λ f. same ∙ (functions_kind x).1 f))
      by (parameter f x) k.function = no_parameter f x

-- as the code finds them, step by step
pub marked_kinds : (parts : List Section) → ((place : Place) → Misdefined parts place → ⊥)
    → (c : Kinds) (us : List Use) (scalars : List ℕ) (links : List (List ℕ)) → c.numbers ≡ s.numbers parts
    → us ≡ u.uses c.numbers parts → scalars ≡ u.scalars us → links ≡ u.linked us (replicate c.numbers.count [])
    → Marks scalars links c.scalars → AreArrays us links c.arrays → AreKinds parts c
marked_kinds parts well c us scalars links numbered used scalars_are linked hs ha =
    all_kinds parts well c numbered (λ n. rw (scalars_there, links_there) at (hs n))
    (rw (uses_there, links_there) at ha)
  where
    uses_there : us ≡ u.uses (s.numbers parts) parts
    uses_there = used ∙ ap (λ z. u.uses z parts) numbered

    scalars_there : scalars ≡ u.scalars (u.uses (s.numbers parts) parts)
    scalars_there = scalars_are ∙ ap u.scalars uses_there

    links_there : links ≡ u.linked (u.uses (s.numbers parts) parts) (replicate (s.numbers parts).count [])
    links_there = linked ∙ (ap (λ z. u.linked z (replicate c.numbers.count [])) uses_there
        ∙ ap (λ z. u.linked (u.uses (s.numbers parts) parts) (replicate z.count [])) numbered)
