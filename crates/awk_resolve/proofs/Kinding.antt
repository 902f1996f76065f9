-- The numbers that are reached are those of the names that are forced.
use Rattle.std.proofs.Common.{◌≡◌, ◌⊎◌, inl, inr, ◌∙◌, ℕ, ◌+◌, ◌<◌, Bool, true, false, List, [], ◌++◌, length}
use Rattle.std.proofs.Common.{replicate, refl, sym, ap, Option, Some, None, Contains, arith, slice_get, is_some}
use Rattle.std.proofs.Common.{if◌then◌else◌}
use Rattle.std.proofs.lemmas.List.{length-replicate}
use Rattle.std.proofs.lemmas.List.Elements.{Contains-append_left, Contains-append_right, Contains-append_cases}
use Rattle.std.specs.Map.{lookup}
use Rattle.std.specs.Str.{bytes_eq}
use Rattle.awk_text.specs.declared.place.Place.{Place}
use Rattle.awk_tokens.specs.Words.{is_among}
use Rattle.awk_tree.specs.Tree.{Text}
use Rattle.awk_tree.specs.declared.names.Name.{Name}
use Rattle.awk_resolve.specs.Kinds as k
use Rattle.awk_resolve.specs.Kinds.{Kind, Named, global, parameter, Defines, Takes, Calls, texts, meant, Forced}
use Rattle.awk_resolve.specs.Kinds.{Measures}
use Rattle.awk_resolve.specs.Faults as fault
use Rattle.awk_resolve.specs.Faults.{Misdefined}
use Rattle.awk_resolve.specs.declared.mention.Mention as m
use Rattle.awk_resolve.specs.declared.mention.Mention.TheVariants as said
use Rattle.awk_resolve.specs.declared.mention.Role.{Role}
use Rattle.awk_resolve.specs.declared.mention.Role.TheVariants as role
use Rattle.awk_resolve.specs.declared.mention.Section.{Section}
use Rattle.awk_resolve.proofs.Naming.{among_contains}
use Rattle.awk_resolve.specs.Numbering as s
use Rattle.awk_resolve.specs.Numbering.{number_in}
use Rattle.awk_resolve.specs.Numbers.{number, is_function}
use Rattle.awk_resolve.specs.Uses as u
use Rattle.awk_resolve.specs.Marks.{Marks}
use Rattle.awk_resolve.specs.Reached.{Reached, seed, link}
use Rattle.awk_resolve.specs.declared.numbers.Scope.{Scope}
use Rattle.awk_resolve.specs.declared.numbers.Numbers.{Numbers}
use Rattle.awk_resolve.specs.declared.uses.Use.{Use}
use Rattle.awk_resolve.specs.declared.uses.Use.TheVariants.{Scalar, Array, Measured, Handed}
use Rattle.awk_resolve.proofs.Reaching.{found_at, at_found}
use Rattle.awk_resolve.proofs.Numbered.{Known}
use Rattle.awk_resolve.proofs.Meant.{scopes, defined, here, known, own_scalar_known, own_array_known, taken, takes}
use Rattle.awk_resolve.proofs.Meant.{injective, text_of}
use Rattle.awk_resolve.proofs.Using.{found, has, found_argument, has_argument, scalar_is, array_is, measured_is}
use Rattle.awk_resolve.proofs.Using.{handed_is, function_is, argument_is, found_scalar, found_array, has_scalar}
use Rattle.awk_resolve.proofs.Using.{has_array, Stands, scalars_sound, arrays_sound, measures_sound, scalars_have}
use Rattle.awk_resolve.proofs.Using.{arrays_have, measures_have, Linked, linked_length, linked_has, linked_only}
use Rattle.awk_resolve.proofs.Using.{no_links, Back, back_length, back_keeps, back_has, back_only}

some_one : {A : Type 0} (o : Option A) (x y : A) → o ≡ Some x → o ≡ Some y → x ≡ y
some_one o x y e f = cc

-- a text that means a name of the whole script is that name
meant_text : (r : Role) (x y : Text) → meant r x ≡ global y → x ≡ y
meant_text r x y e = by r e
  where
    global_text : (x y : Text) → global x ≡ global y → x ≡ y
    global_text x y e = cc

    of_function : (b : Bool) (f x y : Text) → (if b then parameter f x else global x) ≡ global y → x ≡ y
    of_function true f x y e = cc
    of_function false f x y e = global_text x y e

    by : (r : Role) → meant r x ≡ global y → x ≡ y
    by role.Begin e = global_text x y e
    by role.End e = global_text x y e
    by role.Rule e = global_text x y e
    by (role.Function f ps) e = of_function (is_among (texts ps) x) f.text x y e

module _ (parts : List Section) (well : (place : Place) → Misdefined parts place → ⊥) where
  abbrev t : Numbers
  t = s.numbers parts

  abbrev us : List Use
  us = u.uses t parts

  abbrev table : List (List ℕ)
  table = u.linked us (replicate t.count [])

  -- a number is of a name of which this holds
  abbrev pub Holds : (Named → Type 0) → ℕ → Type 0
  Holds P n = (a : Named) × (number t a ≡ Some n) × P a

  -- a number is of a name that is forced
  abbrev pub Means : Kind → ℕ → Type 0
  Means kind n = Holds (λ a. Forced parts a kind) n

  named : (p : Section) (x : Text) (n : ℕ) → Contains parts p → number_in t p.role x ≡ Some n
      → number t (meant p.role x) ≡ Some n
  named p x n c e = sym (here parts well p x c) ∙ e

  -- the name of a function means the function, since no parameter has it
  pub meant_function : (p : Section) (g : Name) (ps : List Name) (x : Text) → Contains parts p → Defines parts g ps
      → g.text ≡ x → meant p.role x ≡ global g.text
  meant_function p g ps x c d same = by p.role refl
    where
      in_function : (f : Name) (qs : List Name) (b : Bool) → p.role ≡ role.Function f qs → is_among (texts qs) x ≡ b
          → (if b then parameter f.text x else global x) ≡ global g.text
      in_function f qs false e h = ap global (sym same)
      in_function f qs true e h =
          let (i, q, at2, is) = text_of qs x (among_contains (texts qs) x h) in
          absurd (well q.place (fault.misnamed q.place (fault.as_function f g qs ps q (p, c, e) (at_found qs i q at2) d
          (same ∙ sym is))))

      by : (r : Role) → p.role ≡ r → meant r x ≡ global g.text
      by role.Begin e = ap global (sym same)
      by role.End e = ap global (sym same)
      by role.Rule e = ap global (sym same)
      by (role.Function f qs) e = in_function f qs (is_among (texts qs) x) e refl

  pub function_known : (x : Text) → is_function t x ≡ true → (g : Name) × (ps : List Name) × Defines parts g ps
      × (g.text ≡ x)
  function_known x e = by (lookup (bytes_eq x) t.functions) refl e
    where
      by : (o : Option Scope) → lookup (bytes_eq x) t.functions ≡ o → is_some o ≡ true → (g : Name) × (ps : List Name)
          × Defines parts g ps × (g.text ≡ x)
      by None l h = cc
      by (Some c) l h = let (g, ps, base, d, same, scoped) = scopes parts well x c l in (g, ps, d, same)

  pub function_found : (g : Name) (ps : List Name) → Defines parts g ps → is_function t g.text ≡ true
  function_found g ps d = let (c, base, l, scoped) = defined parts well g ps d in ap is_some l

  -- ---- what is reached is forced

  -- what a use says of the name of its number
  abbrev Right : Use → Type 0
  Right (Scalar n) = Means k.scalar n
  Right (Array n) = Means k.array n
  Right (Measured n) = Holds (Measures parts) n
  Right (Handed q n) =
      (p : Section) × (f : Name) × (args : List (Option Name)) × (i : ℕ) × (x : Name) × Contains parts p
      × Contains p.mentions (said.Call f args) × (slice_get args i ≡ Some (Some x))
      × (slice_get (u.parameters t f.text) i ≡ Some q) × (number_in t p.role x.text ≡ Some n)

  call_right : (p : Section) (f : Name) (args : List (Option Name)) (v : Use) → Contains parts p
      → Contains p.mentions (said.Call f args) → Contains (u.arguments t p.role (u.parameters t f.text) 0 args) v
      → Right v
  call_right p f args v c d e = by (found_argument t p.role (u.parameters t f.text) 0 args v e)
    where
      said_by : (i : ℕ) (x : Name) → slice_get args i ≡ Some (Some x)
          → (((is_function t x.text ≡ true) × Contains (u.scalar t p.role x.text) v)
          ⊎ Contains (u.handed t p.role (slice_get (u.parameters t f.text) i) x.text) v) → Right v
      said_by i x at2 (inl (is, g)) =
          let (n, there, same) = scalar_is t p.role x.text v g in
          let (h, ps, def, texts_same) = function_known x.text is in
          let meaning = meant_function p h ps x.text c def texts_same in
          let found_number = named p x.text n c there in
          rw (← same) (
            global h.text,
            rw meaning at found_number,
            k.handed_function p.role f args x h ps (p, c, refl, d)
                (at_found args i (Some x) at2) def meaning,
          )
      said_by i x at2 (inr g) =
          let (q, n, par, there, same) = handed_is t p.role (slice_get (u.parameters t f.text) i) x.text v g in
          rw (← same) (p, f, args, i, x, c, d, at2, par, there)

      by : (j : ℕ) × (a : Option Name) × (slice_get args j ≡ Some a)
          × Contains (u.argument t p.role (slice_get (u.parameters t f.text) (0 + j)) a) v → Right v
      by (j, a, at2, g) =
          let plain : 0 + j ≡ j = omega arith in
          let (x, is, says) = argument_is t p.role (slice_get (u.parameters t f.text) j) a v (rw plain at g) in
          said_by j x (rw is at at2) says

  measured_right : (p : Section) (x : Name) (v : Use) → Contains parts p → Contains p.mentions (said.Measured x)
      → Contains (u.function t p.role x.text ++ u.measured t p.role x.text) v → Right v
  measured_right p x v c d e = elim (Contains-append_cases (u.function t p.role x.text) (u.measured t p.role x.text) v
      e) [
        | inl g ↦ let (is, h) = function_is t p.role x.text v g in of_function is h
        | inr g ↦ let (n, there, same) = measured_is t p.role x.text v g in
            rw (← same) (meant p.role x.text, named p x.text n c there, k.asked p x c d)
      ]
    where
      of_function : is_function t x.text ≡ true → Contains (u.scalar t p.role x.text) v → Right v
      of_function is g =
          let (n, there, same) = scalar_is t p.role x.text v g in
          let (h, ps, def, texts_same) = function_known x.text is in
          let meaning = meant_function p h ps x.text c def texts_same in
          let found_number = named p x.text n c there in
          rw (← same) (global h.text, rw meaning at found_number, k.measured_function p x h ps c d def meaning)

  mention_right : (p : Section) (n : m.Mention) (v : Use) → Contains parts p → Contains p.mentions n
      → Contains (u.mention t p.role n) v → Right v
  mention_right p (said.Scalar x) v c d e =
      let (n, there, same) = scalar_is t p.role x.text v e in
      rw (← same) (meant p.role x.text, named p x.text n c there, k.read_or_set p x c d)
  mention_right p (said.Array x) v c d e =
      let (n, there, same) = array_is t p.role x.text v e in
      rw (← same) (meant p.role x.text, named p x.text n c there, k.subscripted p x c d)
  mention_right p (said.Measured x) v c d e = measured_right p x v c d e
  mention_right p (said.Call f args) v c d e = call_right p f args v c d e
  mention_right p n v c d e = absurd (omega (arith, e.1))

  all_right : (v : Use) → Contains us v → Right v
  all_right v c = elim (Contains-append_cases (u.own_scalars t k.scalars) (u.own_arrays t k.arrays ++ u.parts t parts) v
      c) [
        | inl d ↦ own_right (found_scalar t k.scalars v d)
        | inr d ↦ elim (Contains-append_cases (u.own_arrays t k.arrays) (u.parts t parts) v d) [
          | inl e ↦ array_right (found_array t k.arrays v e)
          | inr e ↦ part_right (found t parts v e)
        ]
      ]
    where
      own_right : (x : Text) × Contains k.scalars x × Contains (u.scalar t role.Begin x) v → Right v
      own_right (x, d, e) =
          let (n, there, same) = scalar_is t role.Begin x v e in rw (← same) (global x, there, k.own_scalar x d)

      array_right : (x : Text) × Contains k.arrays x × Contains (u.array t role.Begin x) v → Right v
      array_right (x, d, e) =
          let (n, there, same) = array_is t role.Begin x v e in rw (← same) (global x, there, k.own_array x d)

      part_right : Stands t parts v → Right v
      part_right (p, n, d, e, f) = mention_right p n v d e f

  pub parameter_place : (f : Text) (i q : ℕ) → slice_get (u.parameters t f) i ≡ Some q → (x : Name) × Takes parts f i x
      × (number t (parameter f x.text) ≡ Some q)
  parameter_place f i q e = by (lookup (bytes_eq f) t.functions) refl e
    where
      by : (o : Option Scope) → lookup (bytes_eq f) t.functions ≡ o → slice_get (u.parameters_of o) i ≡ Some q
          → (x : Name) × Takes parts f i x × (number t (parameter f x.text) ≡ Some q)
      by None l h = cc
      by (Some c) l h = taken parts well f c i q l h

  -- what holds of a parameter holds of what is handed to it
  abbrev Leads : (Named → Type 0) → Type 0
  Leads P =
      (p : Section) (f : Name) (args : List (Option Name)) (i : ℕ) (x q : Name) → Contains parts p
      → Contains p.mentions (said.Call f args) → slice_get args i ≡ Some (Some x)
      → Takes parts f.text i q → P (parameter f.text q.text) → P (meant p.role x.text)

  forced_leads : (kind : Kind) → Leads (λ a. Forced parts a kind)
  forced_leads kind p f args i x q c d at2 tk forced = k.handed p.role f args i x q kind (p, c, refl, d) at2 tk forced

  measures_lead : Leads (Measures parts)
  measures_lead p f args i x q c d at2 tk asks = k.handed_on p.role f args i x q (p, c, refl, d) at2 tk asks

  linked_right : (q n : ℕ) → Linked table q n → Right (Handed q n)
  linked_right q n h = elim (linked_only us q n (replicate t.count []) h)
      [ inl none ↦ absurd (no_links t.count q n none) | inr c ↦ all_right (Handed q n) c ]

  module _ (P : Named → Type 0) (on : Leads P) where
    link_right : (q n : ℕ) → Holds P q → Right (Handed q n) → Holds P n
    link_right q n (a, is, holds) (p, f, args, i, x, c, d, at2, par, there) =
        let (y, takes_it, numbered) = parameter_place f.text i q par in
        let same = (injective parts well).one a (parameter f.text y.text) q is numbered in
        (meant p.role x.text, named p x.text n c there, on p f args i x y c d at2 takes_it (rw same at holds))

    along : (starts : List ℕ) → ((n : ℕ) → Contains starts n → Holds P n) → (n : ℕ) → Reached starts table n → Holds P n
    along starts first n (seed n2 inside c) = first n c
    along starts first n (link q n2 ns there e c inside) = link_right q n (along starts first q there)
        (linked_right q n (ns, e, c))

  pub scalars_mean : (n : ℕ) → Reached (u.scalars us) table n → Means k.scalar n
  scalars_mean n there = along (λ a. Forced parts a k.scalar) (forced_leads k.scalar) (u.scalars us)
      (λ m c. all_right (Scalar m) (scalars_sound us m c)) n there

  pub measures_mean : (n : ℕ) → Reached (u.measures us) table n → Holds (Measures parts) n
  measures_mean n there = along (Measures parts) measures_lead (u.measures us)
      (λ m c. all_right (Measured m) (measures_sound us m c)) n there

  -- what is handed to a measured number makes that one an array
  back_right : (q n : ℕ) → Right (Handed q n) → Holds (Measures parts) q → Means k.array n → Means k.array q
  back_right q n (p, f, args, i, x, c, d, at2, par, there) (a, is, asks) (b, is2, forced) =
      let (y, takes_it, numbered) = parameter_place f.text i q par in
      let same = (injective parts well).one a (parameter f.text y.text) q is numbered in
      let same2 = (injective parts well).one b (meant p.role x.text) n is2 (named p x.text n c there) in (
        parameter f.text y.text,
        numbered,
        k.measured p.role f args i x y (p, c, refl, d) at2 takes_it (rw same at asks)
            (rw same2 at forced),
      )

  pub arrays_mean : (marks : List Bool) → Marks (u.measures us) table marks → (n : ℕ)
      → Reached (u.arrays us) (u.with_back_links marks us table) n → Means k.array n
  arrays_mean marks measured n (seed n2 inside c) = all_right (Array n) (arrays_sound us n c)
  arrays_mean marks measured n (link m n2 ns there e c inside) = by (arrays_mean marks measured m there)
      (back_only marks us n m table (ns, e, c))
    where
      by : Means k.array m → Linked table m n ⊎ Back marks us n m → Means k.array n
      by far (inl h) = link_right (λ a. Forced parts a k.array) (forced_leads k.array) m n far (linked_right m n h)
      by far (inr (d, marked)) = back_right n m (all_right (Handed n m) d) (measures_mean n ((measured n).0 marked)) far

  -- ---- what is forced is reached

  table_length : length table ≡ t.count
  table_length = linked_length us (replicate t.count []) ∙ length-replicate {A = List ℕ} t.count []

  inside : (links : List (List ℕ)) → length links ≡ t.count → (a : Named) (n : ℕ) → number t a ≡ Some n
      → n < length links
  inside links long a n e = let h = (injective parts well).within a n e in rw long h

  in_parts : (p : Section) (n : m.Mention) (v : Use) → Contains parts p → Contains p.mentions n
      → Contains (u.mention t p.role n) v → Contains us v
  in_parts p n v c d e = Contains-append_right (u.own_scalars t k.scalars) _ v
      (Contains-append_right (u.own_arrays t k.arrays) (u.parts t parts) v (has t parts p n v c d e))

  scalar_in : (r : Role) (x : Text) (n : ℕ) → number_in t r x ≡ Some n → Contains (u.scalar t r x) (Scalar n)
  scalar_in r x n e = rw e (0, omega arith, refl)

  array_in : (r : Role) (x : Text) (n : ℕ) → number_in t r x ≡ Some n → Contains (u.array t r x) (Array n)
  array_in r x n e = rw e (0, omega arith, refl)

  measured_in : (r : Role) (x : Text) (n : ℕ) → number_in t r x ≡ Some n → Contains (u.measured t r x) (Measured n)
  measured_in r x n e = rw e (0, omega arith, refl)

  handed_in : (r : Role) (p : Option ℕ) (x : Text) (q n : ℕ) → p ≡ Some q → number_in t r x ≡ Some n
      → Contains (u.handed t r p x) (Handed q n)
  handed_in r p x q n e f = rw (e, f) (0, omega arith, refl)

  function_in : (r : Role) (x : Text) (n : ℕ) → is_function t x ≡ true → number_in t r x ≡ Some n
      → Contains (u.function t r x) (Scalar n)
  function_in r x n e f = rw e (scalar_in r x n f)

  -- a name with a number that is reached
  abbrev Gets : List ℕ → List (List ℕ) → Named → Type 0
  Gets starts links a = (n : ℕ) × (number t a ≡ Some n) × Reached starts links n

  starts_with : (starts : List ℕ) (links : List (List ℕ)) → length links ≡ t.count → (a : Named) (n : ℕ)
      → number t a ≡ Some n → Contains starts n → Gets starts links a
  starts_with starts links long a n e c = (n, e, seed n (inside links long a n e) c)

  from_scalar : (a : Named) (n : ℕ) → number t a ≡ Some n → Contains us (Scalar n) → Gets (u.scalars us) table a
  from_scalar a n e c = starts_with (u.scalars us) table table_length a n e (scalars_have us n c)

  argument_text : (p : Section) (f : Name) (args : List (Option Name)) (x : Name) → Contains parts p
      → Contains p.mentions (said.Call f args) → Contains args (Some x) → Known t p.role x.text
  argument_text p f args x c d e = known parts well p (said.Call f args) x c d e

  in_call : (p : Section) (f : Name) (args : List (Option Name)) (i : ℕ) (x : Name) (v : Use) → Contains parts p
      → Contains p.mentions (said.Call f args) → slice_get args i ≡ Some (Some x)
      → Contains (u.function t p.role x.text ++ u.handed t p.role (slice_get (u.parameters t f.text) i) x.text) v
      → Contains us v
  in_call p f args i x v c d at2 e =
      let plain : i ≡ 0 + i = omega arith in
      in_parts p (said.Call f args) v c d (has_argument t p.role (u.parameters t f.text) 0 args i (Some x) v at2
      (rw plain at e))

  from_function : (p : Section) (f : Name) (args : List (Option Name)) (x g : Name) (ps : List Name) → Contains parts p
      → Contains p.mentions (said.Call f args) → Contains args (Some x) → Defines parts g ps
      → meant p.role x.text ≡ global g.text → Gets (u.scalars us) table (global g.text)
  from_function p f args x g ps c d e def meaning =
      let (n, there) = argument_text p f args x c d e in
      let (i, below, at2) = found_at args (Some x) e in
      let numbered : number t (global g.text) ≡ Some n = rw meaning at (named p x.text n c there) in
      let same : x.text ≡ g.text = meant_text p.role x.text g.text meaning in
      let is_one : is_function t x.text ≡ true = rw same (function_found g ps def) in
      from_scalar (global g.text) n numbered (in_call p f args i x (Scalar n) c d at2
      (Contains-append_left (u.function t p.role x.text) _ (Scalar n) (function_in p.role x.text n is_one there)))

  from_measured_function : (p : Section) (x g : Name) (ps : List Name) → Contains parts p
      → Contains p.mentions (said.Measured x) → Defines parts g ps → meant p.role x.text ≡ global g.text
      → Gets (u.scalars us) table (global g.text)
  from_measured_function p x g ps c d def meaning =
      let (n, there) = known parts well p (said.Measured x) x c d refl in
      let numbered : number t (global g.text) ≡ Some n = rw meaning at (named p x.text n c there) in
      let same : x.text ≡ g.text = meant_text p.role x.text g.text meaning in
      let is_one : is_function t x.text ≡ true = rw same (function_found g ps def) in
      from_scalar (global g.text) n numbered (in_parts p (said.Measured x) (Scalar n) c d
      (Contains-append_left (u.function t p.role x.text) _ (Scalar n) (function_in p.role x.text n is_one there)))

  -- the numbers of a parameter and of what is handed to it
  handing : (p : Section) (f : Name) (args : List (Option Name)) (i : ℕ) (x q : Name) → Contains parts p
      → Contains p.mentions (said.Call f args) → slice_get args i ≡ Some (Some x) → Takes parts f.text i q
      → (n : ℕ) × (a : ℕ) × (number t (parameter f.text q.text) ≡ Some n) × (number t (meant p.role x.text) ≡ Some a)
      × Contains us (Handed n a)
  handing p f args i x q c d at2 tk =
      let (sc, n, l, place, numbered) = takes parts well f.text i q tk in
      let par : slice_get (u.parameters t f.text) i ≡ Some n = ap (λ z. slice_get (u.parameters_of z) i) l ∙ place in
      let (a, is) = argument_text p f args x c d (at_found args i (Some x) at2) in (
        n,
        a,
        numbered,
        named p x.text a c is,
        in_call p f args i x (Handed n a) c d at2
            (Contains-append_right (u.function t p.role x.text) _ (Handed n a)
            (handed_in p.role (slice_get (u.parameters t f.text) i) x.text n a par is)),
      )

  long_enough : (a : Named) (n : ℕ) → number t a ≡ Some n → n < length {A = List ℕ} (replicate t.count [])
  long_enough a n e = rw (length-replicate {A = List ℕ} t.count []) ((injective parts well).within a n e)

  from_link : (starts : List ℕ) (links : List (List ℕ)) → length links ≡ t.count
      → ((n a : ℕ) → Linked table n a → Linked links n a)
      → (p : Section) (f : Name) (args : List (Option Name)) (i : ℕ) (x q : Name) → Contains parts p
      → Contains p.mentions (said.Call f args) → slice_get args i ≡ Some (Some x) → Takes parts f.text i q
      → Gets starts links (parameter f.text q.text) → Gets starts links (meant p.role x.text)
  from_link starts links long wide p f args i x q c d at2 tk (m, numbered2, there) =
      let (n, a, numbered, meaning, use_there) = handing p f args i x q c d at2 tk in
      let same : n ≡ m = some_one _ n m numbered numbered2 in
      let (ns, e, g) = wide n a (linked_has us n a (replicate t.count [])
      (long_enough (parameter f.text q.text) n numbered) use_there) in
      (a, meaning, link n a ns (rw (sym same) at there) e g (inside links long (meant p.role x.text) a meaning))

  pub measures_reached : (a : Named) → Measures parts a → Gets (u.measures us) table a
  measures_reached a (k.asked p x c d) =
      let (n, e) = known parts well p (said.Measured x) x c d refl in
      starts_with (u.measures us) table table_length (meant p.role x.text) n (named p x.text n c e)
      (measures_have us n (in_parts p (said.Measured x) (Measured n) c d
      (Contains-append_right (u.function t p.role x.text) _ (Measured n) (measured_in p.role x.text n e))))
  measures_reached a (k.handed_on r f args i x q (p, c, role_is, d) at2 tk asks) =
      let got = from_link (u.measures us) table table_length (λ n a h. h) p f args i x q c d at2 tk
      (measures_reached (parameter f.text q.text) asks) in
      rw role_is at got

  pub scalars_reached : (a : Named) (kind : Kind) → kind ≡ k.scalar → Forced parts a kind → Gets (u.scalars us) table a
  scalars_reached a kind is (k.own_scalar x c) =
      let (n, e) = own_scalar_known parts well x c in
      from_scalar (global x) n e (Contains-append_left (u.own_scalars t k.scalars) _ (Scalar n)
      (has_scalar t k.scalars x (Scalar n) c (scalar_in role.Begin x n e)))
  scalars_reached a kind is (k.own_array x c) = absurd (cc)
  scalars_reached a kind is (k.defined f ps d) = absurd (cc)
  scalars_reached a kind is (k.read_or_set p x c d) =
      let (n, e) = known parts well p (said.Scalar x) x c d refl in
      from_scalar (meant p.role x.text) n (named p x.text n c e) (in_parts p (said.Scalar x) (Scalar n) c d
      (scalar_in p.role x.text n e))
  scalars_reached a kind is (k.subscripted p x c d) = absurd (cc)
  scalars_reached a kind is (k.measured_function p x g ps c d def meaning) =
      from_measured_function p x g ps c d def meaning
  scalars_reached a kind is (k.handed_function r f args x g ps (p, c, role_is, d) e def meaning) =
      from_function p f args x g ps c d e def (rw (← role_is) at meaning)
  scalars_reached a kind is (k.handed r f args i x q kind2 (p, c, role_is, d) at2 tk forced) =
      let got = from_link (u.scalars us) table table_length (λ n a h. h) p f args i x q c d at2 tk
      (scalars_reached (parameter f.text q.text) kind is forced) in
      rw role_is at got
  scalars_reached a kind is (k.measured r f args i x q c at2 tk asks forced) = absurd (cc)

  module _ (marks : List Bool) (measured : Marks (u.measures us) table marks) where
    abbrev back : List (List ℕ)
    back = u.with_back_links marks us table

    long_back : length back ≡ t.count
    long_back = back_length marks us table ∙ table_length

    from_array : (a : Named) (n : ℕ) → number t a ≡ Some n → Contains us (Array n) → Gets (u.arrays us) back a
    from_array a n e c = starts_with (u.arrays us) back long_back a n e (arrays_have us n c)

    from_back : (p : Section) (f : Name) (args : List (Option Name)) (i : ℕ) (x q : Name) → Contains parts p
        → Contains p.mentions (said.Call f args) → slice_get args i ≡ Some (Some x)
        → Takes parts f.text i q → Measures parts (parameter f.text q.text)
        → Gets (u.arrays us) back (meant p.role x.text) → Gets (u.arrays us) back (parameter f.text q.text)
    from_back p f args i x q c d at2 tk asks (b, numbered_b, there) =
        let (n, a, numbered, meaning, use_there) = handing p f args i x q c d at2 tk in
        let same : a ≡ b = some_one _ a b meaning numbered_b in
        let (m, numbered_m, reached_m) = measures_reached (parameter f.text q.text) asks in
        let same2 : m ≡ n = some_one _ m n numbered_m numbered in
        let marked : slice_get marks n ≡ Some true = rw same2 at ((measured m).1 reached_m) in
        let (ns, e, g) = back_has marks us n a table (inside table table_length (meant p.role x.text) a meaning) marked
        use_there in (
          n,
          numbered,
          link a n ns (rw (sym same) at there) e g
              (inside back long_back (parameter f.text q.text) n numbered),
        )

    pub arrays_reached : (a : Named) (kind : Kind) → kind ≡ k.array → Forced parts a kind → Gets (u.arrays us) back a
    arrays_reached a kind is (k.own_scalar x c) = absurd (cc)
    arrays_reached a kind is (k.own_array x c) =
        let (n, e) = own_array_known parts well x c in
        from_array (global x) n e
        (Contains-append_right (u.own_scalars t k.scalars) _ (Array n) (Contains-append_left (u.own_arrays t k.arrays) _
        (Array n) (has_array t k.arrays x (Array n) c (array_in role.Begin x n e))))
    arrays_reached a kind is (k.defined f ps d) = absurd (cc)
    arrays_reached a kind is (k.read_or_set p x c d) = absurd (cc)
    arrays_reached a kind is (k.subscripted p x c d) =
        let (n, e) = known parts well p (said.Array x) x c d refl in
        from_array (meant p.role x.text) n (named p x.text n c e) (in_parts p (said.Array x) (Array n) c d
        (array_in p.role x.text n e))
    arrays_reached a kind is (k.measured_function p x g ps c d def meaning) = absurd (cc)
    arrays_reached a kind is (k.handed_function r f args x g ps c e def meaning) = absurd (cc)
    arrays_reached a kind is (k.handed r f args i x q kind2 (p, c, role_is, d) at2 tk forced) =
        let got = from_link (u.arrays us) back long_back (λ n a h. back_keeps marks us n a table h) p f args i x q c d
        at2 tk (arrays_reached (parameter f.text q.text) kind is forced) in
        rw role_is at got
    arrays_reached a kind is (k.measured r f args i x q (p, c, role_is, d) at2 tk asks forced) =
        let far = arrays_reached (meant r x.text) k.array refl forced in
        from_back p f args i x q c d at2 tk asks (rw (← role_is) at far)
