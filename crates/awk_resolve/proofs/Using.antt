-- What the uses of numbers say of names: the marks of a number are the kinds that its name is forced to.
use Rattle.std.proofs.Common.{◌≡◌, ◌⊎◌, inl, inr, ◌∙◌, ℕ, zero, suc, ◌+◌, ◌<◌, Bool, true, false, List, [], ◌∷◌, ◌++◌}
use Rattle.std.proofs.Common.{length, replicate, refl, ap, Option, Some, None, Contains, arith, slice_get}
use Rattle.std.proofs.Common.{if◌then◌else◌}
use Rattle.std.proofs.lemmas.List.Elements.{Contains-append_left, Contains-append_right, Contains-append_cases}
use Rattle.awk_tree.specs.Tree.{Text}
use Rattle.awk_tree.specs.declared.names.Name.{Name}
use Rattle.awk_resolve.specs.declared.mention.Mention as m
use Rattle.awk_resolve.specs.declared.mention.Role.{Role}
use Rattle.awk_resolve.specs.declared.mention.Role.TheVariants as role
use Rattle.awk_resolve.specs.declared.mention.Section.{Section}
use Rattle.awk_resolve.proofs.Lists.{contains_first, contains_later, contains_none, contains_cases}
use Rattle.awk_resolve.specs.Numbering.{number_in}
use Rattle.awk_resolve.specs.Uses as u
use Rattle.awk_resolve.specs.declared.numbers.Numbers.{Numbers}
use Rattle.awk_resolve.specs.declared.uses.Use.{Use}
use Rattle.awk_resolve.specs.declared.uses.Use.TheVariants.{Scalar, Array, Measured, Handed}
use Rattle.awk_resolve.specs.Numbers.{is_function}

only_one : {A : Type 0} (x y : A) → Contains (x ∷ []) y → x ≡ y
only_one x y c = by (contains_cases x [] y c)
  where
    by : (x ≡ y) ⊎ Contains [] y → x ≡ y
    by (inl e) = e
    by (inr d) = absurd (contains_none y d)

-- ---- where a use stands

module _ (t : Numbers) where
  found_in : (r : Role) (ms : List m.Mention) (x : Use) → Contains (u.mentions t r ms) x → (n : m.Mention)
      × Contains ms n × Contains (u.mention t r n) x
  found_in r [] x c = absurd (contains_none x c)
  found_in r (n ∷ ms) x c = elim (Contains-append_cases (u.mention t r n) (u.mentions t r ms) x c) [
    | inl d ↦ (n, contains_first n ms, d)
    | inr d ↦ let (o, e, f) = found_in r ms x d in (o, contains_later n ms o e, f)
  ]

  has_in : (r : Role) (ms : List m.Mention) (n : m.Mention) (x : Use) → Contains ms n → Contains (u.mention t r n) x
      → Contains (u.mentions t r ms) x
  has_in r [] n x c d = absurd (contains_none n c)
  has_in r (o ∷ ms) n x c d = elim (contains_cases o ms n c) [
    | inl same ↦ Contains-append_left (u.mention t r o) (u.mentions t r ms) x (rw same d)
    | inr e ↦ Contains-append_right (u.mention t r o) (u.mentions t r ms) x (has_in r ms n x e d)
  ]

  abbrev pub Stands : List Section → Use → Type 0
  Stands ps x = (p : Section) × (n : m.Mention) × Contains ps p × Contains p.mentions n
      × Contains (u.mention t p.role n) x

  pub found : (ps : List Section) (x : Use) → Contains (u.parts t ps) x → Stands ps x
  found [] x c = absurd (contains_none x c)
  found (p ∷ ps) x c = elim (Contains-append_cases (u.mentions t p.role p.mentions) (u.parts t ps) x c) [
    | inl d ↦ let (n, e, f) = found_in p.role p.mentions x d in (p, n, contains_first p ps, e, f)
    | inr d ↦ let (q, n, e, f, g) = found ps x d in (q, n, contains_later p ps q e, f, g)
  ]

  pub has : (ps : List Section) (p : Section) (n : m.Mention) (x : Use) → Contains ps p → Contains p.mentions n
      → Contains (u.mention t p.role n) x → Contains (u.parts t ps) x
  has [] p n x c d e = absurd (contains_none p c)
  has (q ∷ ps) p n x c d e = elim (contains_cases q ps p c) [
    | inl same ↦ Contains-append_left (u.mentions t q.role q.mentions) (u.parts t ps) x
        (rw same (has_in p.role p.mentions n x d e))
    | inr f ↦ Contains-append_right (u.mentions t q.role q.mentions) (u.parts t ps) x (has ps p n x f d e)
  ]

  pub found_argument : (r : Role) (ps : List ℕ) (i : ℕ) (args : List (Option Name)) (x : Use)
      → Contains (u.arguments t r ps i args) x
      → (j : ℕ) × (a : Option Name) × (slice_get args j ≡ Some a) × Contains (u.argument t r (slice_get ps (i + j)) a) x
  found_argument r ps i [] x c = absurd (contains_none x c)
  found_argument r ps i (a ∷ rest) x c =
      elim (Contains-append_cases (u.argument t r (slice_get ps i) a) (u.arguments t r ps (i + 1) rest) x c) [
        | inl d ↦ this d
        | inr d ↦ later (found_argument r ps (i + 1) rest x d)
      ]
    where
      this : Contains (u.argument t r (slice_get ps i) a) x → (j : ℕ) × (b : Option Name)
          × (slice_get (a ∷ rest) j ≡ Some b) × Contains (u.argument t r (slice_get ps (i + j)) b) x
      this d = let plain : i ≡ i + 0 = omega arith in (0, a, refl, rw plain at d)

      later : (j : ℕ) × (b : Option Name) × (slice_get rest j ≡ Some b)
          × Contains (u.argument t r (slice_get ps ((i + 1) + j)) b) x
          → (j : ℕ) × (b : Option Name) × (slice_get (a ∷ rest) j ≡ Some b)
          × Contains (u.argument t r (slice_get ps (i + j)) b) x
      later (j, b, e, f) = let at : (i + 1) + j ≡ i + suc j = omega arith in (suc j, b, e, rw at at f)

  pub has_argument : (r : Role) (ps : List ℕ) (i : ℕ) (args : List (Option Name)) (j : ℕ) (a : Option Name) (x : Use)
      → slice_get args j ≡ Some a
      → Contains (u.argument t r (slice_get ps (i + j)) a) x → Contains (u.arguments t r ps i args) x
  has_argument r ps i [] j a x e c = cc
  has_argument r ps i (b ∷ rest) zero a x e c =
      let same : b ≡ a = cc in
      let plain : i + 0 ≡ i = omega arith in
      let c2 : Contains (u.argument t r (slice_get ps i) a) x = rw plain at c in
      Contains-append_left (u.argument t r (slice_get ps i) b) (u.arguments t r ps (i + 1) rest) x (rw same c2)
  has_argument r ps i (b ∷ rest) (suc j) a x e c =
      let at : i + suc j ≡ (i + 1) + j = omega arith in
      Contains-append_right (u.argument t r (slice_get ps i) b) (u.arguments t r ps (i + 1) rest) x
      (has_argument r ps (i + 1) rest j a x e (rw at at c))

  -- ---- what a use is

  pub scalar_is : (r : Role) (x : Text) (v : Use) → Contains (u.scalar t r x) v → (n : ℕ) × (number_in t r x ≡ Some n)
      × (Scalar n ≡ v)
  scalar_is r x v c = by (number_in t r x) refl c
    where
      by : (o : Option ℕ) → number_in t r x ≡ o → Contains (u.scalar_of o) v → (n : ℕ) × (number_in t r x ≡ Some n)
          × (Scalar n ≡ v)
      by None e d = absurd (contains_none v d)
      by (Some n) e d = (n, e, only_one (Scalar n) v d)

  pub array_is : (r : Role) (x : Text) (v : Use) → Contains (u.array t r x) v → (n : ℕ) × (number_in t r x ≡ Some n)
      × (Array n ≡ v)
  array_is r x v c = by (number_in t r x) refl c
    where
      by : (o : Option ℕ) → number_in t r x ≡ o → Contains (u.array_of o) v → (n : ℕ) × (number_in t r x ≡ Some n)
          × (Array n ≡ v)
      by None e d = absurd (contains_none v d)
      by (Some n) e d = (n, e, only_one (Array n) v d)

  pub measured_is : (r : Role) (x : Text) (v : Use) → Contains (u.measured t r x) v → (n : ℕ)
      × (number_in t r x ≡ Some n) × (Measured n ≡ v)
  measured_is r x v c = by (number_in t r x) refl c
    where
      by : (o : Option ℕ) → number_in t r x ≡ o → Contains (u.measured_of o) v → (n : ℕ) × (number_in t r x ≡ Some n)
          × (Measured n ≡ v)
      by None e d = absurd (contains_none v d)
      by (Some n) e d = (n, e, only_one (Measured n) v d)

  pub handed_is : (r : Role) (p : Option ℕ) (x : Text) (v : Use) → Contains (u.handed t r p x) v → (q : ℕ) × (n : ℕ)
      × (p ≡ Some q) × (number_in t r x ≡ Some n) × (Handed q n ≡ v)
  handed_is r None x v c = absurd (contains_none v c)
  handed_is r (Some q) x v c = by (number_in t r x) refl c
    where
      by : (o : Option ℕ) → number_in t r x ≡ o → Contains (u.handed_of (Some q) o) v → (p : ℕ) × (n : ℕ)
          × (Some q ≡ Some p) × (number_in t r x ≡ Some n) × (Handed p n ≡ v)
      by None e d = absurd (contains_none v d)
      by (Some n) e d = (q, n, refl, e, only_one (Handed q n) v d)

  pub function_is : (r : Role) (x : Text) (v : Use) → Contains (u.function t r x) v → (is_function t x ≡ true)
      × Contains (u.scalar t r x) v
  function_is r x v c = by (is_function t x) refl c
    where
      by : (b : Bool) → is_function t x ≡ b → Contains (if b then u.scalar t r x else []) v → (is_function t x ≡ true)
          × Contains (u.scalar t r x) v
      by true e d = (e, d)
      by false e d = absurd (contains_none v d)

  -- what an argument says
  abbrev pub Says : Role → Option ℕ → Option Name → Use → Type 0
  Says r p a v = (n : Name) × (a ≡ Some n) × (((is_function t n.text ≡ true) × Contains (u.scalar t r n.text) v)
      ⊎ Contains (u.handed t r p n.text) v)

  pub argument_is : (r : Role) (p : Option ℕ) (a : Option Name) (v : Use) → Contains (u.argument t r p a) v
      → Says r p a v
  argument_is r p None v c = absurd (contains_none v c)
  argument_is r p (Some n) v c = by (Contains-append_cases (u.function t r n.text) (u.handed t r p n.text) v c)
    where
      by : Contains (u.function t r n.text) v ⊎ Contains (u.handed t r p n.text) v → Says r p (Some n) v
      by (inl d) = (n, refl, inl (function_is r n.text v d))
      by (inr d) = (n, refl, inr d)

  -- ---- the uses of the variables that awk sets

  pub found_scalar : (xs : List Text) (v : Use) → Contains (u.own_scalars t xs) v → (x : Text) × Contains xs x
      × Contains (u.scalar t role.Begin x) v
  found_scalar [] v c = absurd (contains_none v c)
  found_scalar (y ∷ xs) v c = elim (Contains-append_cases (u.scalar t role.Begin y) (u.own_scalars t xs) v c) [
    | inl d ↦ (y, contains_first y xs, d)
    | inr d ↦ let (x, e, f) = found_scalar xs v d in (x, contains_later y xs x e, f)
  ]

  pub found_array : (xs : List Text) (v : Use) → Contains (u.own_arrays t xs) v → (x : Text) × Contains xs x
      × Contains (u.array t role.Begin x) v
  found_array [] v c = absurd (contains_none v c)
  found_array (y ∷ xs) v c = elim (Contains-append_cases (u.array t role.Begin y) (u.own_arrays t xs) v c) [
    | inl d ↦ (y, contains_first y xs, d)
    | inr d ↦ let (x, e, f) = found_array xs v d in (x, contains_later y xs x e, f)
  ]

  pub has_scalar : (xs : List Text) (x : Text) (v : Use) → Contains xs x → Contains (u.scalar t role.Begin x) v
      → Contains (u.own_scalars t xs) v
  has_scalar [] x v c d = absurd (contains_none x c)
  has_scalar (y ∷ xs) x v c d = elim (contains_cases y xs x c) [
    | inl same ↦ Contains-append_left (u.scalar t role.Begin y) (u.own_scalars t xs) v (rw same d)
    | inr e ↦ Contains-append_right (u.scalar t role.Begin y) (u.own_scalars t xs) v (has_scalar xs x v e d)
  ]

  pub has_array : (xs : List Text) (x : Text) (v : Use) → Contains xs x → Contains (u.array t role.Begin x) v
      → Contains (u.own_arrays t xs) v
  has_array [] x v c d = absurd (contains_none x c)
  has_array (y ∷ xs) x v c d = elim (contains_cases y xs x c) [
    | inl same ↦ Contains-append_left (u.array t role.Begin y) (u.own_arrays t xs) v (rw same d)
    | inr e ↦ Contains-append_right (u.array t role.Begin y) (u.own_arrays t xs) v (has_array xs x v e d)
  ]

-- ---- the uses by what they say

pub scalars_sound : (us : List Use) (n : ℕ) → Contains (u.scalars us) n → Contains us (Scalar n)
scalars_sound [] n c = absurd (contains_none n c)
scalars_sound (Scalar x ∷ us) n c = elim (contains_cases x (u.scalars us) n c) [
  | inl same ↦ rw same (contains_first (Scalar n) us)
  | inr d ↦ contains_later (Scalar x) us (Scalar n) (scalars_sound us n d)
]
scalars_sound (Array x ∷ us) n c = contains_later (Array x) us (Scalar n) (scalars_sound us n c)
scalars_sound (Measured x ∷ us) n c = contains_later (Measured x) us (Scalar n) (scalars_sound us n c)
scalars_sound (Handed p x ∷ us) n c = contains_later (Handed p x) us (Scalar n) (scalars_sound us n c)

pub arrays_sound : (us : List Use) (n : ℕ) → Contains (u.arrays us) n → Contains us (Array n)
arrays_sound [] n c = absurd (contains_none n c)
arrays_sound (Array x ∷ us) n c = elim (contains_cases x (u.arrays us) n c) [
  | inl same ↦ rw same (contains_first (Array n) us)
  | inr d ↦ contains_later (Array x) us (Array n) (arrays_sound us n d)
]
arrays_sound (Scalar x ∷ us) n c = contains_later (Scalar x) us (Array n) (arrays_sound us n c)
arrays_sound (Measured x ∷ us) n c = contains_later (Measured x) us (Array n) (arrays_sound us n c)
arrays_sound (Handed p x ∷ us) n c = contains_later (Handed p x) us (Array n) (arrays_sound us n c)

pub measures_sound : (us : List Use) (n : ℕ) → Contains (u.measures us) n → Contains us (Measured n)
measures_sound [] n c = absurd (contains_none n c)
measures_sound (Measured x ∷ us) n c = elim (contains_cases x (u.measures us) n c) [
  | inl same ↦ rw same (contains_first (Measured n) us)
  | inr d ↦ contains_later (Measured x) us (Measured n) (measures_sound us n d)
]
measures_sound (Scalar x ∷ us) n c = contains_later (Scalar x) us (Measured n) (measures_sound us n c)
measures_sound (Array x ∷ us) n c = contains_later (Array x) us (Measured n) (measures_sound us n c)
measures_sound (Handed p x ∷ us) n c = contains_later (Handed p x) us (Measured n) (measures_sound us n c)

pub scalars_have : (us : List Use) (n : ℕ) → Contains us (Scalar n) → Contains (u.scalars us) n
scalars_have [] n c = absurd (contains_none (Scalar n) c)
scalars_have (x ∷ us) n c = by x (contains_cases x us (Scalar n) c) (scalars_have us n)
  where
    by : (x : Use) → (x ≡ Scalar n) ⊎ Contains us (Scalar n) → (Contains us (Scalar n) → Contains (u.scalars us) n)
        → Contains (u.scalars (x ∷ us)) n
    by (Scalar y) (inl same) rest = let one : y ≡ n = cc in (0, omega arith, one)
    by (Scalar y) (inr d) rest = contains_later y (u.scalars us) n (rest d)
    by (Array y) (inl same) rest = absurd (cc)
    by (Array y) (inr d) rest = rest d
    by (Measured y) (inl same) rest = absurd (cc)
    by (Measured y) (inr d) rest = rest d
    by (Handed p y) (inl same) rest = absurd (cc)
    by (Handed p y) (inr d) rest = rest d

pub arrays_have : (us : List Use) (n : ℕ) → Contains us (Array n) → Contains (u.arrays us) n
arrays_have [] n c = absurd (contains_none (Array n) c)
arrays_have (x ∷ us) n c = by x (contains_cases x us (Array n) c) (arrays_have us n)
  where
    by : (x : Use) → (x ≡ Array n) ⊎ Contains us (Array n) → (Contains us (Array n) → Contains (u.arrays us) n)
        → Contains (u.arrays (x ∷ us)) n
    by (Array y) (inl same) rest = let one : y ≡ n = cc in (0, omega arith, one)
    by (Array y) (inr d) rest = contains_later y (u.arrays us) n (rest d)
    by (Scalar y) (inl same) rest = absurd (cc)
    by (Scalar y) (inr d) rest = rest d
    by (Measured y) (inl same) rest = absurd (cc)
    by (Measured y) (inr d) rest = rest d
    by (Handed p y) (inl same) rest = absurd (cc)
    by (Handed p y) (inr d) rest = rest d

pub measures_have : (us : List Use) (n : ℕ) → Contains us (Measured n) → Contains (u.measures us) n
measures_have [] n c = absurd (contains_none (Measured n) c)
measures_have (x ∷ us) n c = by x (contains_cases x us (Measured n) c) (measures_have us n)
  where
    by : (x : Use) → (x ≡ Measured n) ⊎ Contains us (Measured n)
        → (Contains us (Measured n) → Contains (u.measures us) n) → Contains (u.measures (x ∷ us)) n
    by (Measured y) (inl same) rest = let one : y ≡ n = cc in (0, omega arith, one)
    by (Measured y) (inr d) rest = contains_later y (u.measures us) n (rest d)
    by (Scalar y) (inl same) rest = absurd (cc)
    by (Scalar y) (inr d) rest = rest d
    by (Array y) (inl same) rest = absurd (cc)
    by (Array y) (inr d) rest = rest d
    by (Handed p y) (inl same) rest = absurd (cc)
    by (Handed p y) (inr d) rest = rest d

-- ---- links

abbrev pub Linked : List (List ℕ) → ℕ → ℕ → Type 0
Linked table p a = (ns : List ℕ) × (slice_get table p ≡ Some ns) × Contains ns a

link_length : (p n : ℕ) (table : List (List ℕ)) → length (u.with_link p n table) ≡ length table
link_length p n [] = refl
link_length zero n (l ∷ ls) = refl
link_length (suc p) n (l ∷ ls) = ap suc (link_length p n ls)

link_new : (p n : ℕ) (table : List (List ℕ)) → p < length table → Linked (u.with_link p n table) p n
link_new p n [] h = absurd (omega (arith, h))
link_new zero n (l ∷ ls) h = (l ++ n ∷ [], refl, Contains-append_right l (n ∷ []) n (contains_first n []))
link_new (suc p) n (l ∷ ls) h = link_new p n ls (omega (arith, h))

link_keeps : (p n q a : ℕ) (table : List (List ℕ)) → Linked table q a → Linked (u.with_link p n table) q a
link_keeps p n q a [] (ns, e, c) = cc
link_keeps zero n zero a (l ∷ ls) (ns, e, c) =
    let same : l ≡ ns = cc in (l ++ n ∷ [], refl, Contains-append_left l (n ∷ []) a (rw same c))
link_keeps zero n (suc q) a (l ∷ ls) h = h
link_keeps (suc p) n zero a (l ∷ ls) h = h
link_keeps (suc p) n (suc q) a (l ∷ ls) h = link_keeps p n q a ls h

link_only : (p n q a : ℕ) (table : List (List ℕ)) → Linked (u.with_link p n table) q a → Linked table q a
    ⊎ (Handed p n ≡ Handed q a)
link_only p n q a [] (ns, e, c) = cc
link_only zero n zero a (l ∷ ls) (ns, e, c) =
    by (Contains-append_cases l (n ∷ []) a (let same : ns ≡ l ++ n ∷ [] = cc in rw same at c))
  where
    by : Contains l a ⊎ Contains (n ∷ []) a → Linked (l ∷ ls) zero a ⊎ (Handed zero n ≡ Handed zero a)
    by (inl d) = inl (l, refl, d)
    by (inr d) = inr (ap (Handed zero) (only_one n a d))
link_only zero n (suc q) a (l ∷ ls) h = inl h
link_only (suc p) n zero a (l ∷ ls) h = inl h
link_only (suc p) n (suc q) a (l ∷ ls) h = by (link_only p n q a ls h)
  where
    by : Linked ls q a ⊎ (Handed p n ≡ Handed q a) → Linked ls q a ⊎ (Handed (suc p) n ≡ Handed (suc q) a)
    by (inl g) = inl g
    by (inr e) = let one : p ≡ q = cc in let two : n ≡ a = cc in inr (rw (one, two) refl)

pub linked_length : (us : List Use) (table : List (List ℕ)) → length (u.linked us table) ≡ length table
linked_length [] table = refl
linked_length (Scalar n ∷ us) table = linked_length us table
linked_length (Array n ∷ us) table = linked_length us table
linked_length (Measured n ∷ us) table = linked_length us table
linked_length (Handed p n ∷ us) table = linked_length us (u.with_link p n table) ∙ link_length p n table

linked_keeps : (us : List Use) (q a : ℕ) (table : List (List ℕ)) → Linked table q a → Linked (u.linked us table) q a
linked_keeps [] q a table h = h
linked_keeps (Scalar n ∷ us) q a table h = linked_keeps us q a table h
linked_keeps (Array n ∷ us) q a table h = linked_keeps us q a table h
linked_keeps (Measured n ∷ us) q a table h = linked_keeps us q a table h
linked_keeps (Handed p n ∷ us) q a table h = linked_keeps us q a (u.with_link p n table) (link_keeps p n q a table h)

pub linked_has : (us : List Use) (q a : ℕ) (table : List (List ℕ)) → q < length table → Contains us (Handed q a)
    → Linked (u.linked us table) q a
linked_has [] q a table h c = absurd (contains_none (Handed q a) c)
linked_has (x ∷ us) q a table h c = by x (contains_cases x us (Handed q a) c) (linked_has us q a)
  where
    by : (x : Use) → (x ≡ Handed q a) ⊎ Contains us (Handed q a) → ((other : List (List ℕ)) → q < length other
        → Contains us (Handed q a) → Linked (u.linked us other) q a)
        → Linked (u.linked (x ∷ us) table) q a
    by (Scalar n) (inl same) rest = absurd (cc)
    by (Scalar n) (inr d) rest = rest table h d
    by (Array n) (inl same) rest = absurd (cc)
    by (Array n) (inr d) rest = rest table h d
    by (Measured n) (inl same) rest = absurd (cc)
    by (Measured n) (inr d) rest = rest table h d
    by (Handed p n) (inl same) rest =
        let one : p ≡ q = cc in
        let two : n ≡ a = cc in linked_keeps us q a (u.with_link p n table) (rw (one, two) (link_new q a table h))
    by (Handed p n) (inr d) rest = rest (u.with_link p n table) (rw (link_length p n table) h) d

or_later : (x : Use) (us : List Use) (q a : ℕ) (table : List (List ℕ)) → Linked table q a ⊎ Contains us (Handed q a)
    → Linked table q a ⊎ Contains (x ∷ us) (Handed q a)
or_later x us q a table (inl g) = inl g
or_later x us q a table (inr c) = inr (contains_later x us (Handed q a) c)

pub linked_only : (us : List Use) (q a : ℕ) (table : List (List ℕ)) → Linked (u.linked us table) q a → Linked table q a
    ⊎ Contains us (Handed q a)
linked_only [] q a table h = inl h
linked_only (Scalar n ∷ us) q a table h = or_later (Scalar n) us q a table (linked_only us q a table h)
linked_only (Array n ∷ us) q a table h = or_later (Array n) us q a table (linked_only us q a table h)
linked_only (Measured n ∷ us) q a table h = or_later (Measured n) us q a table (linked_only us q a table h)
linked_only (Handed p n ∷ us) q a table h = by (linked_only us q a (u.with_link p n table) h)
  where
    first : Linked table q a ⊎ (Handed p n ≡ Handed q a) → Linked table q a ⊎ Contains (Handed p n ∷ us) (Handed q a)
    first (inl g) = inl g
    first (inr e) = inr (rw e (contains_first (Handed q a) us))

    by : Linked (u.with_link p n table) q a ⊎ Contains us (Handed q a) → Linked table q a
        ⊎ Contains (Handed p n ∷ us) (Handed q a)
    by (inl g) = first (link_only p n q a table g)
    by (inr c) = inr (contains_later (Handed p n) us (Handed q a) c)

pub no_links : (count q a : ℕ) → Linked (replicate count []) q a → ⊥
no_links zero q a (ns, e, c) = cc
no_links (suc count) zero a (ns, e, c) = let same : ns ≡ [] = cc in contains_none a (rw same at c)
no_links (suc count) (suc q) a h = no_links count q a h

-- ---- links back to what is measured

module _ (measured : List Bool) where
  step_length : (o : Option Bool) (p n : ℕ) (table : List (List ℕ)) → length (u.back_link o p n table) ≡ length table
  step_length None p n table = refl
  step_length (Some false) p n table = refl
  step_length (Some true) p n table = link_length n p table

  step_keeps : (o : Option Bool) (p n q a : ℕ) (table : List (List ℕ)) → Linked table q a
      → Linked (u.back_link o p n table) q a
  step_keeps None p n q a table h = h
  step_keeps (Some false) p n q a table h = h
  step_keeps (Some true) p n q a table h = link_keeps n p q a table h

  pub back_length : (us : List Use) (table : List (List ℕ)) → length (u.with_back_links measured us table)
      ≡ length table
  back_length [] table = refl
  back_length (Scalar n ∷ us) table = back_length us table
  back_length (Array n ∷ us) table = back_length us table
  back_length (Measured n ∷ us) table = back_length us table
  back_length (Handed p n ∷ us) table = back_length us (u.back_link (slice_get measured p) p n table)
      ∙ step_length (slice_get measured p) p n table

  pub back_keeps : (us : List Use) (q a : ℕ) (table : List (List ℕ)) → Linked table q a
      → Linked (u.with_back_links measured us table) q a
  back_keeps [] q a table h = h
  back_keeps (Scalar n ∷ us) q a table h = back_keeps us q a table h
  back_keeps (Array n ∷ us) q a table h = back_keeps us q a table h
  back_keeps (Measured n ∷ us) q a table h = back_keeps us q a table h
  back_keeps (Handed p n ∷ us) q a table h = back_keeps us q a (u.back_link (slice_get measured p) p n table)
      (step_keeps (slice_get measured p) p n q a table h)

  pub back_has : (us : List Use) (q a : ℕ) (table : List (List ℕ)) → a < length table → slice_get measured q ≡ Some true
      → Contains us (Handed q a)
      → Linked (u.with_back_links measured us table) a q
  back_has [] q a table h m c = absurd (contains_none (Handed q a) c)
  back_has (x ∷ us) q a table h m c = by x (contains_cases x us (Handed q a) c) (back_has us q a)
    where
      by : (x : Use) → (x ≡ Handed q a) ⊎ Contains us (Handed q a)
          → ((other : List (List ℕ)) → a < length other → slice_get measured q ≡ Some true → Contains us (Handed q a)
          → Linked (u.with_back_links measured us other) a q)
          → Linked (u.with_back_links measured (x ∷ us) table) a q
      by (Scalar n) (inl same) rest = absurd (cc)
      by (Scalar n) (inr d) rest = rest table h m d
      by (Array n) (inl same) rest = absurd (cc)
      by (Array n) (inr d) rest = rest table h m d
      by (Measured n) (inl same) rest = absurd (cc)
      by (Measured n) (inr d) rest = rest table h m d
      by (Handed p n) (inl same) rest =
          let one : p ≡ q = cc in
          let two : n ≡ a = cc in
          let new : Linked (u.back_link (slice_get measured q) q a table) a q = rw m (link_new a q table h) in
          rw (one, two) (back_keeps us a q (u.back_link (slice_get measured q) q a table) new)
      by (Handed p n) (inr d) rest = rest (u.back_link (slice_get measured p) p n table)
          (rw (step_length (slice_get measured p) p n table) h) m d

  -- a link back from a, of what is handed to q
  abbrev pub Back : List Use → ℕ → ℕ → Type 0
  Back us q a = Contains us (Handed q a) × (slice_get measured q ≡ Some true)

  step_only : (o : Option Bool) (p n q a : ℕ) (table : List (List ℕ)) → slice_get measured p ≡ o
      → Linked (u.back_link o p n table) a q
      → Linked table a q ⊎ ((Handed p n ≡ Handed q a) × (slice_get measured q ≡ Some true))
  step_only None p n q a table e h = inl h
  step_only (Some false) p n q a table e h = inl h
  step_only (Some true) p n q a table e h = by (link_only n p a q table h)
    where
      by : Linked table a q ⊎ (Handed n p ≡ Handed a q) → Linked table a q
          ⊎ ((Handed p n ≡ Handed q a) × (slice_get measured q ≡ Some true))
      by (inl g) = inl g
      by (inr same) = let one : n ≡ a = cc in let two : p ≡ q = cc in inr (rw (one, two) refl, rw two at e)

  or_back : (x : Use) (us : List Use) (q a : ℕ) (table : List (List ℕ)) → Linked table a q ⊎ Back us q a
      → Linked table a q ⊎ Back (x ∷ us) q a
  or_back x us q a table (inl g) = inl g
  or_back x us q a table (inr (c, m)) = inr (contains_later x us (Handed q a) c, m)

  pub back_only : (us : List Use) (q a : ℕ) (table : List (List ℕ)) → Linked (u.with_back_links measured us table) a q
      → Linked table a q ⊎ Back us q a
  back_only [] q a table h = inl h
  back_only (Scalar n ∷ us) q a table h = or_back (Scalar n) us q a table (back_only us q a table h)
  back_only (Array n ∷ us) q a table h = or_back (Array n) us q a table (back_only us q a table h)
  back_only (Measured n ∷ us) q a table h = or_back (Measured n) us q a table (back_only us q a table h)
  back_only (Handed p n ∷ us) q a table h = by (back_only us q a (u.back_link (slice_get measured p) p n table) h)
    where
      first : Linked table a q ⊎ ((Handed p n ≡ Handed q a) × (slice_get measured q ≡ Some true)) → Linked table a q
          ⊎ Back (Handed p n ∷ us) q a
      first (inl g) = inl g
      first (inr (e, m)) = inr (rw e (contains_first (Handed q a) us), m)

      by : Linked (u.back_link (slice_get measured p) p n table) a q ⊎ Back us q a → Linked table a q
          ⊎ Back (Handed p n ∷ us) q a
      by (inl g) = first (step_only (slice_get measured p) p n q a table refl g)
      by (inr (c, m)) = inr (contains_later (Handed p n) us (Handed q a) c, m)
