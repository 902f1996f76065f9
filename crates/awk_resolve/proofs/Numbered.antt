-- Each name of a script has a number, and no two have one.
use Rattle.std.proofs.Common.{◌≡◌, ◌⊎◌, inl, inr, ◌∙◌, ℕ, zero, suc, ◌+◌, ◌<◌, ◌≤◌, true, false, List, [], ◌∷◌, ◌++◌}
use Rattle.std.proofs.Common.{length, refl, sym, ap, Option, Some, None, Contains, arith, length-append, slice_get}
use Rattle.std.proofs.Common.{append_assoc, append-nil}
use Rattle.std.proofs.lemmas.Bool.{cases_Bool}
use Rattle.std.proofs.lemmas.Option.{slice_get_within}
use Rattle.std.proofs.lemmas.Slice.Eq.{bytes_eq-Decides}
use Rattle.std.specs.Map.{lookup}
use Rattle.std.specs.Option.{option_or}
use Rattle.std.specs.Str.{bytes_eq}
use Rattle.awk_tree.specs.Tree.{Text}
use Rattle.awk_tree.specs.declared.names.Name.{Name}
use Rattle.awk_resolve.specs.Kinds.{Named, global, parameter, Defines}
use Rattle.awk_resolve.specs.TextTables.{with_text}
use Rattle.awk_resolve.specs.declared.mention.Mention.{Mention}
use Rattle.awk_resolve.specs.declared.mention.Mention.TheVariants.{Scalar, Array, Measured, Call}
use Rattle.awk_resolve.specs.declared.mention.Role.{Role}
use Rattle.awk_resolve.specs.declared.mention.Role.TheVariants as role
use Rattle.awk_resolve.specs.declared.mention.Section.{Section}
use Rattle.awk_resolve.proofs.TableLemmas.{put_same, put_other}
use Rattle.awk_resolve.proofs.Lists.{contains_first, contains_later, contains_none, contains_cases}
use Rattle.awk_resolve.specs.Numbering as s
use Rattle.awk_resolve.specs.Numbering.{number_in}
use Rattle.awk_resolve.specs.Numbers.{number, in_scope, at_position, in_perhaps}
use Rattle.awk_resolve.specs.Said.{Names}
use Rattle.awk_resolve.specs.declared.numbers.Scope.{Scope}
use Rattle.awk_resolve.specs.declared.numbers.Numbers.{Numbers}

-- ---- lists with one more at the end

some_same : {A : Type 0} (x y : A) → Some x ≡ Some y → x ≡ y
some_same x y e = cc

snoc_cases : {A : Type 0} (xs : List A) (y : A) (i : ℕ) (z : A) → slice_get (xs ++ y ∷ []) i ≡ Some z
    → (slice_get xs i ≡ Some z) ⊎ ((i ≡ length xs) × (y ≡ z))
snoc_cases [] y zero z e = inr (refl, some_same y z e)
snoc_cases [] y (suc i) z e = cc
snoc_cases (x ∷ xs) y zero z e = inl e
snoc_cases (x ∷ xs) y (suc i) z e = by (snoc_cases xs y i z e)
  where
    by : (slice_get xs i ≡ Some z) ⊎ ((i ≡ length xs) × (y ≡ z)) → (slice_get xs i ≡ Some z)
        ⊎ ((suc i ≡ suc (length xs)) × (y ≡ z))
    by (inl h) = inl h
    by (inr (same, f)) = inr (ap suc same, f)

snoc_last : {A : Type 0} (xs : List A) (y : A) → slice_get (xs ++ y ∷ []) (length xs) ≡ Some y
snoc_last [] y = refl
snoc_last (x ∷ xs) y = snoc_last xs y

snoc_keeps : {A : Type 0} (xs : List A) (y : A) (i : ℕ) (z : A) → slice_get xs i ≡ Some z
    → slice_get (xs ++ y ∷ []) i ≡ Some z
snoc_keeps [] y i z e = cc
snoc_keeps (x ∷ xs) y zero z e = e
snoc_keeps (x ∷ xs) y (suc i) z e = snoc_keeps xs y i z e

pub there_is : {A : Type 0} (xs : List A) (i : ℕ) → i < length xs → (x : A) × (slice_get xs i ≡ Some x)
there_is [] i h = absurd (omega arith)
there_is (x ∷ xs) zero h = (x, refl)
there_is (x ∷ xs) (suc i) h = there_is xs i (omega arith)

-- ---- what stands under a text once one more was put

module _ {V : Type 0} where
  pub put_cases : (x y : Text) (v w : V) (es : List (Text × V)) → lookup (bytes_eq y) (with_text x v es) ≡ Some w
      → ((y ≡ x) × (v ≡ w)) ⊎ (lookup (bytes_eq y) es ≡ Some w)
  put_cases x y v w es e = by (cases_Bool (bytes_eq y x))
    where
      by : (bytes_eq y x ≡ true) ⊎ (bytes_eq y x ≡ false) → ((y ≡ x) × (v ≡ w)) ⊎ (lookup (bytes_eq y) es ≡ Some w)
      by (inl b) =
          let same : y ≡ x = (bytes_eq-Decides y x).0 b in
          let e2 = rw same at e in
          inl (same, some_same v w (sym (put_same x v es) ∙ e2))
      by (inr b) = inr (sym (put_other x y v es b) ∙ e)

  pub put_known : (x y : Text) (v w : V) (es : List (Text × V)) → lookup (bytes_eq y) es ≡ Some w → (u : V)
      × (lookup (bytes_eq y) (with_text x v es) ≡ Some u)
  put_known x y v w es e = by (cases_Bool (bytes_eq y x))
    where
      by : (bytes_eq y x ≡ true) ⊎ (bytes_eq y x ≡ false) → (u : V) × (lookup (bytes_eq y) (with_text x v es) ≡ Some u)
      by (inl b) = (v, rw ((bytes_eq-Decides y x).0 b) (put_same x v es))
      by (inr b) = (w, put_other x y v es b ∙ e)

-- ---- the parameters of a function

-- The scope has these parameters, with the numbers from this one on.
pub record Scoped (base : ℕ) (ps : List Name) (c : Scope) : Type 0 where
  pub count : length c.numbers ≡ length ps
  pub numbers : (i n : ℕ) → slice_get c.numbers i ≡ Some n → n ≡ base + i
  pub sound : (x : Text) (i : ℕ) → lookup (bytes_eq x) c.positions ≡ Some i → (q : Name) × (slice_get ps i ≡ Some q)
      × (q.text ≡ x)
  pub complete : (i : ℕ) (q : Name) → slice_get ps i ≡ Some q → (j : ℕ)
      × (lookup (bytes_eq q.text) c.positions ≡ Some j)

no_scope : (base : ℕ) → Scoped base [] s.no_parameters
no_scope base = record {
  count = refl;
  numbers = λ i n e. cc;
  sound = λ x i e. absurd (cc);
  complete =
      λ i q e. absurd (cc);
}

scope_more : (base n : ℕ) (ps : List Name) (q : Name) (c : Scope) → n ≡ base + length ps → Scoped base ps c
    → Scoped base (ps ++ q ∷ []) (s.with_parameter q.text n c)
scope_more base n ps q c at k = record {
  count =
      let a : length (c.numbers ++ n ∷ []) ≡ length c.numbers + 1 = length-append c.numbers (n ∷ []) in
      let b : length (ps ++ q ∷ []) ≡ length ps + 1 = length-append ps (q ∷ []) in
      let same = k.count in omega (arith, a, b, same);
  numbers = λ i m e. numbers_by i m (snoc_cases c.numbers n i m e);
  sound = λ x i e. sound_by x i (put_cases q.text x (length c.numbers) i c.positions e);
  complete = λ i r e. complete_by i r (snoc_cases ps q i r e);
}
  where
    numbers_by : (i m : ℕ) → (slice_get c.numbers i ≡ Some m) ⊎ ((i ≡ length c.numbers) × (n ≡ m)) → m ≡ base + i
    numbers_by i m (inl e) = k.numbers i m e
    numbers_by i m (inr (same, is)) = let count = k.count in omega (arith, same, is, at, count)

    sound_by : (x : Text) (i : ℕ) → ((x ≡ q.text) × (length c.numbers ≡ i)) ⊎ (lookup (bytes_eq x) c.positions ≡ Some i)
        → (r : Name) × (slice_get (ps ++ q ∷ []) i ≡ Some r) × (r.text ≡ x)
    sound_by x i (inl (same, is)) = (q, (rw (← is, k.count) (snoc_last ps q)), sym same)
    sound_by x i (inr e) = let (r, there, is) = k.sound x i e in (r, snoc_keeps ps q i r there, is)

    complete_by : (i : ℕ) (r : Name) → (slice_get ps i ≡ Some r) ⊎ ((i ≡ length ps) × (q ≡ r)) → (j : ℕ)
        × (lookup (bytes_eq r.text) (with_text q.text (length c.numbers) c.positions) ≡ Some j)
    complete_by i r (inl e) =
        let (j, there) = k.complete i r e in put_known q.text r.text (length c.numbers) j c.positions there
    complete_by i r (inr (at2, same)) = (length c.numbers, rw (← same) (put_same q.text (length c.numbers) c.positions))

scoped_from : (base n : ℕ) (ps qs : List Name) (c : Scope) → n ≡ base + length ps → Scoped base ps c
    → Scoped base (ps ++ qs) (s.scope n c qs)
scoped_from base n ps [] c at k = rw (append-nil ps) k
scoped_from base n ps (q ∷ qs) c at k =
    let more : length (ps ++ q ∷ []) ≡ length ps + 1 = length-append ps (q ∷ []) in
    rw append_assoc at (scoped_from base (n + 1) (ps ++ q ∷ []) qs (s.with_parameter q.text n c)
    (omega (arith, at, more)) (scope_more base n ps q c at k))

pub scoped : (base : ℕ) (qs : List Name) → Scoped base qs (s.scope base s.no_parameters qs)
scoped base qs = scoped_from base base [] qs s.no_parameters (omega arith) (no_scope base)

module _ (base : ℕ) (ps : List Name) (c : Scope) (k : Scoped base ps c) where
  -- what has a number is a parameter
  pub scope_known : (x : Text) (n : ℕ) → in_scope c x ≡ Some n → (i : ℕ) × (q : Name) × (slice_get ps i ≡ Some q)
      × (q.text ≡ x) × (slice_get c.numbers i ≡ Some n)
  scope_known x n e = by (lookup (bytes_eq x) c.positions) refl e
    where
      by : (o : Option ℕ) → lookup (bytes_eq x) c.positions ≡ o → at_position c.numbers o ≡ Some n → (i : ℕ)
          × (q : Name) × (slice_get ps i ≡ Some q) × (q.text ≡ x) × (slice_get c.numbers i ≡ Some n)
      by None l f = cc
      by (Some i) l f = let (q, there, is) = k.sound x i l in (i, q, there, is, f)

  -- and each parameter has one
  pub scope_numbers : (i : ℕ) (q : Name) → slice_get ps i ≡ Some q → (n : ℕ) × (in_scope c q.text ≡ Some n)
  scope_numbers i q e =
      let (j, l) = k.complete i q e in
      let (r, there, is) = k.sound q.text j l in
      let inside = slice_get_within ps j r there in
      let count = k.count in
      let (n, f) = there_is c.numbers j (omega (arith, inside, count)) in
      (n, ap (at_position c.numbers) l ∙ f)

  pub scope_within : (x : Text) (n : ℕ) → in_scope c x ≡ Some n → (base ≤ n) × (n < base + length ps)
  scope_within x n e =
      let (i, q, there, is, f) = scope_known x n e in
      let inside = slice_get_within ps i q there in
      let at = k.numbers i n f in
      (omega (arith, at), omega (arith, at, inside))

  pub scope_one : (x y : Text) (n : ℕ) → in_scope c x ≡ Some n → in_scope c y ≡ Some n → x ≡ y
  scope_one x y n e f =
      let (i, q, there, is, g) = scope_known x n e in
      let (j, r, there2, is2, h) = scope_known y n f in
      let at = k.numbers i n g in
      let at2 = k.numbers j n h in
      let same : i ≡ j = omega (arith, at, at2) in
      let there3 = rw same at there in
      let one : q ≡ r = cc in
      sym is ∙ (ap (λ z. z.text) one ∙ is2)

-- ---- no two names with one number

pub record Injective (t : Numbers) : Type 0 where
  pub one : (a b : Named) (n : ℕ) → number t a ≡ Some n → number t b ≡ Some n → a ≡ b
  pub within : (a : Named) (n : ℕ) → number t a ≡ Some n → n < t.count

-- Where each number of u is one of t or, of a name that is new, not below the count of t, u has none twice either.
injective_more : (t u : Numbers) (New : Named → ℕ → Type 0) → Injective t → t.count ≤ u.count
    → ((a : Named) (n : ℕ) → New a n → (t.count ≤ n) × (n < u.count))
    → ((a b : Named) (n : ℕ) → New a n → New b n → a ≡ b)
    → ((a : Named) (n : ℕ) → number u a ≡ Some n → (number t a ≡ Some n) ⊎ New a n)
    → Injective u
injective_more t u New k grows bounds one cases = record {
  one = λ a b n e f. one_by a b n (cases a n e) (cases b n f);
  within = λ a n e. within_by a n (cases a n e);
}
  where
    one_by : (a b : Named) (n : ℕ) → (number t a ≡ Some n) ⊎ New a n → (number t b ≡ Some n) ⊎ New b n → a ≡ b
    one_by a b n (inl e) (inl f) = k.one a b n e f
    one_by a b n (inl e) (inr f) = let x = k.within a n e in let y = (bounds b n f).0 in absurd (omega (arith, x, y))
    one_by a b n (inr e) (inl f) = let x = k.within b n f in let y = (bounds a n e).0 in absurd (omega (arith, x, y))
    one_by a b n (inr e) (inr f) = one a b n e f

    within_by : (a : Named) (n : ℕ) → (number t a ≡ Some n) ⊎ New a n → n < u.count
    within_by a n (inl e) = let x = k.within a n e in omega (arith, x, grows)
    within_by a n (inr e) = (bounds a n e).1

pub nothing_injective : Injective s.nothing
nothing_injective = record { one = one; within = within }
  where
    one : (a b : Named) (n : ℕ) → number s.nothing a ≡ Some n → number s.nothing b ≡ Some n → a ≡ b
    one (global x) b n e f = cc
    one (parameter f x) b n e g = cc

    within : (a : Named) (n : ℕ) → number s.nothing a ≡ Some n → n < 0
    within (global x) n e = cc
    within (parameter f x) n e = cc

-- ---- functions

function_injective : (f : Name) (ps : List Name) (t : Numbers) → Injective t
    → Injective (s.with_function (role.Function f ps) t)
function_injective f ps t k = injective_more t (s.with_function (role.Function f ps) t) New k (omega arith) bounds one
    cases
  where
    c : Scope
    c = s.scope t.count s.no_parameters ps

    New : Named → ℕ → Type 0
    New (global x) n = ⊥
    New (parameter g x) n = (g ≡ f.text) × (in_scope c x ≡ Some n)

    bounds : (a : Named) (n : ℕ) → New a n → (t.count ≤ n) × (n < t.count + length ps)
    bounds (global x) n h = absurd h
    bounds (parameter g x) n (same, e) = scope_within t.count ps c (scoped t.count ps) x n e

    one : (a b : Named) (n : ℕ) → New a n → New b n → a ≡ b
    one (global x) b n h l = absurd h
    one (parameter g x) (global y) n h l = absurd l
    one (parameter g x) (parameter h y) n (same, e) (same2, f2) =
        let texts = scope_one t.count ps c (scoped t.count ps) x y n e f2 in cc

    cases : (a : Named) (n : ℕ) → number (s.with_function (role.Function f ps) t) a ≡ Some n → (number t a ≡ Some n)
        ⊎ New a n
    cases (global x) n e = inl e
    cases (parameter g x) n e = by (lookup (bytes_eq g) (with_text f.text c t.functions)) refl e
      where
        by : (o : Option Scope) → lookup (bytes_eq g) (with_text f.text c t.functions) ≡ o → in_perhaps o x ≡ Some n
            → (number t (parameter g x) ≡ Some n) ⊎ New (parameter g x) n
        by None l h = cc
        by (Some d) l h = sides (put_cases f.text g c d t.functions l)
          where
            sides : ((g ≡ f.text) × (c ≡ d)) ⊎ (lookup (bytes_eq g) t.functions ≡ Some d)
                → (number t (parameter g x) ≡ Some n) ⊎ New (parameter g x) n
            sides (inl (same, is)) = inr (same, rw is h)
            sides (inr old) = inl (ap (λ o. in_perhaps o x) old ∙ h)

role_injective : (r : Role) (t : Numbers) → Injective t → Injective (s.with_function r t)
role_injective role.Begin t k = k
role_injective role.End t k = k
role_injective role.Rule t k = k
role_injective (role.Function f ps) t k = function_injective f ps t k

pub functions_injective : (parts : List Section) (t : Numbers) → Injective t → Injective (s.with_functions parts t)
functions_injective [] t k = k
functions_injective (p ∷ ps) t k = functions_injective ps (s.with_function p.role t) (role_injective p.role t k)

module _ (parts : List Section) where
  -- The scopes are of the functions of the script.
  abbrev pub Scopes : Numbers → Type 0
  Scopes t = (f : Text) (c : Scope) → lookup (bytes_eq f) t.functions ≡ Some c → (g : Name) × (ps : List Name)
      × (base : ℕ) × Defines parts g ps × (g.text ≡ f) × Scoped base ps c

  role_scopes : (p : Section) (r : Role) (t : Numbers) → p.role ≡ r → Contains parts p → Scopes t
      → Scopes (s.with_function r t)
  role_scopes p role.Begin t e h k = k
  role_scopes p role.End t e h k = k
  role_scopes p role.Rule t e h k = k
  role_scopes p (role.Function g ps) t e h k =
      λ f c l. by f c (put_cases g.text f (s.scope t.count s.no_parameters ps) c t.functions l)
    where
      by : (f : Text) (c : Scope) → ((f ≡ g.text) × (s.scope t.count s.no_parameters ps ≡ c))
          ⊎ (lookup (bytes_eq f) t.functions ≡ Some c)
          → (g2 : Name) × (qs : List Name) × (base : ℕ) × Defines parts g2 qs × (g2.text ≡ f) × Scoped base qs c
      by f c (inl (same, is)) = (g, ps, t.count, (p, h, e), sym same, rw is at (scoped t.count ps))
      by f c (inr old) = k f c old

  pub functions_scopes : (ps : List Section) (t : Numbers) → ((p : Section) → Contains ps p → Contains parts p)
      → Scopes t → Scopes (s.with_functions ps t)
  functions_scopes [] t within k = k
  functions_scopes (p ∷ ps) t within k =
      functions_scopes ps (s.with_function p.role t) (λ q c. within q (contains_later p ps q c))
      (role_scopes p p.role t refl (within p (contains_first p ps)) k)

abbrev pub HasFunction : Text → Numbers → Type 0
HasFunction x t = (c : Scope) × (lookup (bytes_eq x) t.functions ≡ Some c)

role_keeps : (r : Role) (x : Text) (t : Numbers) → HasFunction x t → HasFunction x (s.with_function r t)
role_keeps role.Begin x t h = h
role_keeps role.End x t h = h
role_keeps role.Rule x t h = h
role_keeps (role.Function f ps) x t (c, e) = put_known f.text x (s.scope t.count s.no_parameters ps) c t.functions e

functions_keep : (ps : List Section) (x : Text) (t : Numbers) → HasFunction x t → HasFunction x (s.with_functions ps t)
functions_keep [] x t h = h
functions_keep (p ∷ ps) x t h = functions_keep ps x (s.with_function p.role t) (role_keeps p.role x t h)

role_has : (r : Role) (f : Name) (fs : List Name) (t : Numbers) → r ≡ role.Function f fs
    → HasFunction f.text (s.with_function r t)
role_has r f fs t e = rw e (
  s.scope t.count s.no_parameters fs,
  put_same f.text (s.scope t.count s.no_parameters fs)
      t.functions,
)

pub functions_have : (ps : List Section) (p : Section) (f : Name) (fs : List Name) (t : Numbers) → Contains ps p
    → p.role ≡ role.Function f fs → HasFunction f.text (s.with_functions ps t)
functions_have [] p f fs t c e = absurd (contains_none p c)
functions_have (q ∷ ps) p f fs t c e = elim (contains_cases q ps p c) [
  | inl same ↦ functions_keep ps f.text (s.with_function q.role t) (role_has q.role f fs t (ap (λ z. z.role) same ∙ e))
  | inr d ↦ functions_have ps p f fs (s.with_function q.role t) d e
]

-- ---- other names

pub record Grows (t u : Numbers) : Type 0 where
  pub functions_same : u.functions ≡ t.functions
  pub keeps : (a : Named) (n : ℕ) → number t a ≡ Some n → number u a ≡ Some n
  pub injective : Injective t → Injective u

grows_none : (t : Numbers) → Grows t t
grows_none t = record { functions_same = refl; keeps = λ a n e. e; injective = λ k. k }

pub grows_on : (t u v : Numbers) → Grows t u → Grows u v → Grows t v
grows_on t u v g h = record {
  functions_same = h.functions_same ∙ g.functions_same;
  keeps =
      λ a n e. h.keeps a n (g.keeps a n e);
  injective = λ k. h.injective (g.injective k);
}

global_grows : (x : Text) (t : Numbers) → number t (global x) ≡ None → Grows t (s.with_global x t)
global_grows x t new = record {
  functions_same = refl;
  keeps = keeps;
  injective =
      λ k. injective_more t (s.with_global x t) New k (omega arith) bounds one cases;
}
  where
    keeps : (a : Named) (n : ℕ) → number t a ≡ Some n → number (s.with_global x t) a ≡ Some n
    keeps (parameter f y) n e = e
    keeps (global y) n e = by (cases_Bool (bytes_eq y x))
      where
        by : (bytes_eq y x ≡ true) ⊎ (bytes_eq y x ≡ false) → lookup (bytes_eq y) (with_text x t.count t.globals)
            ≡ Some n
        by (inl b) = let same = (bytes_eq-Decides y x).0 b in let e2 = rw same at e in absurd (cc)
        by (inr b) = put_other x y t.count t.globals b ∙ e

    New : Named → ℕ → Type 0
    New (global y) n = (y ≡ x) × (t.count ≡ n)
    New (parameter f y) n = ⊥

    bounds : (a : Named) (n : ℕ) → New a n → (t.count ≤ n) × (n < t.count + 1)
    bounds (global y) n (same, is) = (omega (arith, is), omega (arith, is))
    bounds (parameter f y) n h = absurd h

    one : (a b : Named) (n : ℕ) → New a n → New b n → a ≡ b
    one (global y) (global z) n (same, is) (same2, is2) = ap global (same ∙ sym same2)
    one (global y) (parameter f z) n h l = absurd l
    one (parameter f y) b n h l = absurd h

    cases : (a : Named) (n : ℕ) → number (s.with_global x t) a ≡ Some n → (number t a ≡ Some n) ⊎ New a n
    cases (parameter f y) n e = inl e
    cases (global y) n e = by (put_cases x y t.count n t.globals e)
      where
        by : ((y ≡ x) × (t.count ≡ n)) ⊎ (lookup (bytes_eq y) t.globals ≡ Some n) → (number t (global y) ≡ Some n)
            ⊎ New (global y) n
        by (inl h) = inr h
        by (inr h) = inl h

-- where a text has no number in an item, the variable of this text has none
no_global : (t : Numbers) (r : Role) (x : Text) → number_in t r x ≡ None → number t (global x) ≡ None
no_global t role.Begin x e = e
no_global t role.End x e = e
no_global t role.Rule x e = e
no_global t (role.Function f ps) x e = by (number t (parameter f.text x)) e
  where
    by : (o : Option ℕ) → option_or o (number t (global x)) ≡ None → number t (global x) ≡ None
    by None h = h
    by (Some n) h = cc

name_grows : (r : Role) (x : Text) (t : Numbers) → Grows t (s.with_name r x t)
name_grows r x t = by (number_in t r x) refl
  where
    by : (o : Option ℕ) → number_in t r x ≡ o → Grows t (s.unless_numbered o x t)
    by None e = global_grows x t (no_global t r x e)
    by (Some n) e = grows_none t

abbrev pub Known : Numbers → Role → Text → Type 0
Known t r x = (n : ℕ) × (number_in t r x ≡ Some n)

global_known : (t : Numbers) (r : Role) (x : Text) → number_in t r x ≡ None → Known (s.with_global x t) r x
global_known t role.Begin x e = (t.count, put_same x t.count t.globals)
global_known t role.End x e = (t.count, put_same x t.count t.globals)
global_known t role.Rule x e = (t.count, put_same x t.count t.globals)
global_known t (role.Function f ps) x e = (t.count, by (number t (parameter f.text x)) refl e)
  where
    by : (o : Option ℕ) → number t (parameter f.text x) ≡ o → option_or o (number t (global x)) ≡ None
        → option_or o (lookup (bytes_eq x) (with_text x t.count t.globals)) ≡ Some t.count
    by None l h = put_same x t.count t.globals
    by (Some n) l h = cc

name_known : (r : Role) (x : Text) (t : Numbers) → Known (s.with_name r x t) r x
name_known r x t = by (number_in t r x) refl
  where
    by : (o : Option ℕ) → number_in t r x ≡ o → Known (s.unless_numbered o x t) r x
    by None e = global_known t r x e
    by (Some n) e = (n, e)

pub known_keeps : (t u : Numbers) (r : Role) (x : Text) → Grows t u → Known t r x → Known u r x
known_keeps t u role.Begin x g (n, e) = (n, g.keeps (global x) n e)
known_keeps t u role.End x g (n, e) = (n, g.keeps (global x) n e)
known_keeps t u role.Rule x g (n, e) = (n, g.keeps (global x) n e)
known_keeps t u (role.Function f ps) x g (n, e) = (n, by (number t (parameter f.text x)) refl e)
  where
    same : number u (parameter f.text x) ≡ number t (parameter f.text x)
    same = ap (λ fs. in_perhaps (lookup (bytes_eq f.text) fs) x) g.functions_same

    by : (o : Option ℕ) → number t (parameter f.text x) ≡ o → option_or o (number t (global x)) ≡ Some n
        → option_or (number u (parameter f.text x)) (number u (global x)) ≡ Some n
    by None l h = rw (same, l) (g.keeps (global x) n h)
    by (Some m) l h = rw (same, l) h

pub own_grows : (xs : List Text) (t : Numbers) → Grows t (s.with_own xs t)
own_grows [] t = grows_none t
own_grows (x ∷ xs) t = grows_on t (s.with_name role.Begin x t) _ (name_grows role.Begin x t)
    (own_grows xs (s.with_name role.Begin x t))

pub own_known : (xs : List Text) (x : Text) (t : Numbers) → Contains xs x → Known (s.with_own xs t) role.Begin x
own_known [] x t c = absurd (contains_none x c)
own_known (y ∷ xs) x t c = elim (contains_cases y xs x c) [
  | inl same ↦ known_keeps (s.with_name role.Begin y t) _ role.Begin x (own_grows xs (s.with_name role.Begin y t))
      (rw same (name_known role.Begin x t))
  | inr d ↦ own_known xs x (s.with_name role.Begin y t) d
]

argument_grows : (r : Role) (a : Option Name) (t : Numbers) → Grows t (s.with_argument r a t)
argument_grows r None t = grows_none t
argument_grows r (Some n) t = name_grows r n.text t

arguments_grow : (r : Role) (args : List (Option Name)) (t : Numbers) → Grows t (s.with_arguments r args t)
arguments_grow r [] t = grows_none t
arguments_grow r (a ∷ rest) t = grows_on t (s.with_argument r a t) _ (argument_grows r a t)
    (arguments_grow r rest (s.with_argument r a t))

arguments_known : (r : Role) (args : List (Option Name)) (n : Name) (t : Numbers) → Contains args (Some n)
    → Known (s.with_arguments r args t) r n.text
arguments_known r [] n t c = absurd (contains_none (Some n) c)
arguments_known r (a ∷ rest) n t c = elim (contains_cases a rest (Some n) c) [
  | inl same ↦ known_keeps (s.with_argument r a t) _ r n.text (arguments_grow r rest (s.with_argument r a t))
      (rw same (name_known r n.text t))
  | inr d ↦ arguments_known r rest n (s.with_argument r a t) d
]

mention_grows : (r : Role) (m : Mention) (t : Numbers) → Grows t (s.with_mention r m t)
mention_grows r (Scalar n) t = name_grows r n.text t
mention_grows r (Array n) t = name_grows r n.text t
mention_grows r (Measured n) t = name_grows r n.text t
mention_grows r (Call f args) t = arguments_grow r args t
mention_grows r m t = grows_none t

mention_known : (r : Role) (m : Mention) (x : Name) (t : Numbers) → Names m x → Known (s.with_mention r m t) r x.text
mention_known r (Scalar n) x t e = rw e (name_known r x.text t)
mention_known r (Array n) x t e = rw e (name_known r x.text t)
mention_known r (Measured n) x t e = rw e (name_known r x.text t)
mention_known r (Call f args) x t c = arguments_known r args x t c
mention_known r m x t c = absurd c

mentions_grow : (r : Role) (ms : List Mention) (t : Numbers) → Grows t (s.with_mentions r ms t)
mentions_grow r [] t = grows_none t
mentions_grow r (m ∷ ms) t = grows_on t (s.with_mention r m t) _ (mention_grows r m t)
    (mentions_grow r ms (s.with_mention r m t))

mentions_known : (r : Role) (ms : List Mention) (m : Mention) (x : Name) (t : Numbers) → Contains ms m → Names m x
    → Known (s.with_mentions r ms t) r x.text
mentions_known r [] m x t c h = absurd (contains_none m c)
mentions_known r (n ∷ ms) m x t c h = elim (contains_cases n ms m c) [
  | inl same ↦ known_keeps (s.with_mention r n t) _ r x.text (mentions_grow r ms (s.with_mention r n t))
      (rw same (mention_known r m x t h))
  | inr d ↦ mentions_known r ms m x (s.with_mention r n t) d h
]

pub parts_grow : (ps : List Section) (t : Numbers) → Grows t (s.with_parts ps t)
parts_grow [] t = grows_none t
parts_grow (p ∷ ps) t = grows_on t (s.with_mentions p.role p.mentions t) _ (mentions_grow p.role p.mentions t)
    (parts_grow ps (s.with_mentions p.role p.mentions t))

pub parts_known : (ps : List Section) (p : Section) (m : Mention) (x : Name) (t : Numbers) → Contains ps p
    → Contains p.mentions m → Names m x → Known (s.with_parts ps t) p.role x.text
parts_known [] p m x t c d h = absurd (contains_none p c)
parts_known (q ∷ ps) p m x t c d h = elim (contains_cases q ps p c) [
  | inl same ↦ known_keeps (s.with_mentions q.role q.mentions t) _ p.role x.text
      (parts_grow ps (s.with_mentions q.role q.mentions t)) (rw same (mentions_known p.role p.mentions m x t d h))
  | inr e ↦ parts_known ps p m x (s.with_mentions q.role q.mentions t) e d h
]
