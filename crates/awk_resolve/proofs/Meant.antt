-- The numbers of a script in which no function and no parameter is misdefined.
use Rattle.std.proofs.Common.{◌≡◌, ◌⊎◌, inl, inr, ◌∙◌, ℕ, zero, suc, ◌<◌, Bool, true, false, List, [], ◌∷◌, ◌++◌}
use Rattle.std.proofs.Common.{length, refl, sym, ap, Option, Some, None, Contains, arith, slice_get, append_assoc}
use Rattle.std.proofs.Common.{if◌then◌else◌}
use Rattle.std.proofs.lemmas.Bool.{cases_order}
use Rattle.std.proofs.lemmas.List.Elements.{Contains-append_cases, Contains-append_right}
use Rattle.std.proofs.lemmas.Option.{slice_get_within}
use Rattle.std.specs.Map.{lookup}
use Rattle.std.specs.Option.{option_or}
use Rattle.std.specs.Str.{bytes_eq}
use Rattle.awk_text.specs.declared.place.Place.{Place}
use Rattle.awk_tokens.specs.Words.{is_among}
use Rattle.awk_tree.specs.Tree.{Text}
use Rattle.awk_tree.specs.declared.names.Name.{Name}
use Rattle.awk_resolve.specs.Kinds.{global, parameter, Defines, Takes, texts, meant, scalars, arrays}
use Rattle.awk_resolve.specs.Faults as fault
use Rattle.awk_resolve.specs.Faults.{Misdefined}
use Rattle.awk_resolve.specs.declared.mention.Mention.{Mention}
use Rattle.awk_resolve.specs.declared.mention.Role.{Role}
use Rattle.awk_resolve.specs.declared.mention.Role.TheVariants as role
use Rattle.awk_resolve.specs.declared.mention.Section.{Section}
use Rattle.awk_resolve.proofs.Lists.{contains_first, contains_cases}
use Rattle.awk_resolve.proofs.Naming.{among_contains, contains_among, split_at}
use Rattle.awk_resolve.specs.Numbering as s
use Rattle.awk_resolve.specs.Numbering.{number_in}
use Rattle.awk_resolve.specs.Numbers.{number, in_scope, in_perhaps, at_position}
use Rattle.awk_resolve.specs.Said.{Names}
use Rattle.awk_resolve.specs.declared.numbers.Scope.{Scope}
use Rattle.awk_resolve.specs.declared.numbers.Numbers.{Numbers}
use Rattle.awk_resolve.proofs.Numbered.{Scoped, scope_known, scope_numbers, Injective, Scopes, Grows, Known, grows_on}
use Rattle.awk_resolve.proofs.Numbered.{own_grows, own_known, known_keeps, parts_grow, parts_known, functions_injective}
use Rattle.awk_resolve.proofs.Numbered.{functions_scopes, functions_have, nothing_injective, there_is}

pub texts_at : (ps : List Name) (i : ℕ) (q : Name) → slice_get ps i ≡ Some q → Contains (texts ps) q.text
texts_at [] i q e = cc
texts_at (p ∷ ps) zero q e =
    let same : p ≡ q = cc in
    let one : p.text ≡ q.text = ap (λ z. z.text) same in rw (← one) (contains_first p.text (texts ps))
texts_at (p ∷ ps) (suc i) q e = let (k, h, f) = texts_at ps i q e in (suc k, omega (arith, h), f)

pub text_of : (ps : List Name) (x : Text) → Contains (texts ps) x → (i : ℕ) × (q : Name) × (slice_get ps i ≡ Some q)
    × (q.text ≡ x)
text_of [] x c = absurd (omega (arith, c.1))
text_of (p ∷ ps) x c = elim (contains_cases p.text (texts ps) x c) [
  | inl same ↦ (0, p, refl, same)
  | inr d ↦ let (i, q, e, f) = text_of ps x d in (suc i, q, e, f)
]

split_nth : {A : Type 0} (xs : List A) (j : ℕ) (x : A) → slice_get xs j ≡ Some x → (before : List A) × (after : List A)
    × (xs ≡ before ++ x ∷ after) × (length before ≡ j)
split_nth [] j x e = cc
split_nth (y ∷ xs) zero x e = ([], xs, (let same : y ≡ x = cc in ap (λ z. z ∷ xs) same), refl)
split_nth (y ∷ xs) (suc j) x e =
    let (before, after, parts, long) = split_nth xs j x e in (y ∷ before, after, ap (λ l. y ∷ l) parts, ap suc long)

in_front : {A : Type 0} (xs ys : List A) (i : ℕ) → i < length xs → slice_get (xs ++ ys) i ≡ slice_get xs i
in_front [] ys i h = absurd (omega arith)
in_front (x ∷ xs) ys zero h = refl
in_front (x ∷ xs) ys (suc i) h = in_front xs ys i (omega arith)

module _ (parts : List Section) (well : (place : Place) → Misdefined parts place → ⊥) where
  -- a function is defined once
  twice : (before after : List Section) (p : Section) (f g : Name) (ps qs : List Name) → parts ≡ before ++ p ∷ after
      → p.role ≡ role.Function f ps → Defines before g qs → g.text ≡ f.text → ⊥
  twice before after p f g ps qs e r d same =
      well f.place (fault.redefined f.place (fault.twice before after p f g ps qs e r d same))

  pub function_once : (f g : Name) (ps qs : List Name) → Defines parts f ps → Defines parts g qs → f.text ≡ g.text
      → ps ≡ qs
  function_once f g ps qs (p, c, r) (q, d, t) same = by (split_at parts p c)
    where
      by : (mid : List Section) × (after : List Section) × (parts ≡ mid ++ p ∷ after) → ps ≡ qs
      by (mid, after, e) = sides (Contains-append_cases mid (p ∷ after) q (rw e at d))
        where
          later : (mid2 : List Section) × (after2 : List Section) × (after ≡ mid2 ++ q ∷ after2) → ps ≡ qs
          later (mid2, after2, f2) =
              let whole : parts ≡ (mid ++ p ∷ mid2) ++ q ∷ after2 =
              e ∙ (ap (λ l. mid ++ p ∷ l) f2 ∙ sym (append_assoc mid (p ∷ mid2) (q ∷ after2))) in
              absurd (twice (mid ++ p ∷ mid2) after2 q g f qs ps whole t (
                p,
                Contains-append_right mid (p ∷ mid2) p
                    (contains_first p mid2),
                r,
              ) same)

          here : (p ≡ q) ⊎ Contains after q → ps ≡ qs
          here (inl one) =
              let roles : role.Function f ps ≡ role.Function g qs = sym r ∙ (ap (λ z. z.role) one ∙ t) in cc
          here (inr a) = later (split_at after q a)

          sides : Contains mid q ⊎ Contains (p ∷ after) q → ps ≡ qs
          sides (inl m) = absurd (twice mid after p f g ps qs e r (q, m, t) (sym same))
          sides (inr a) = here (contains_cases p after q a)

  -- and so is a parameter of one
  ordered : (f : Name) (ps : List Name) (i j : ℕ) (q r : Name) → Defines parts f ps → slice_get ps i ≡ Some q
      → slice_get ps j ≡ Some r → q.text ≡ r.text → i < j → ⊥
  ordered f ps i j q r d e h same less =
      let (before, after, whole, long) = split_nth ps j r h in
      let inside : i < length before = omega (arith, long, less) in
      let there : slice_get before i ≡ Some q = sym (in_front before (r ∷ after) i inside) ∙ (rw whole at e) in
      well r.place (fault.misnamed r.place (fault.parameter_twice f ps before after r d whole
      (rw same at (texts_at before i q there))))

  pub parameter_once : (f : Name) (ps : List Name) (i j : ℕ) (q r : Name) → Defines parts f ps → slice_get ps i ≡ Some q
      → slice_get ps j ≡ Some r → q.text ≡ r.text → i ≡ j
  parameter_once f ps i j q r d e h same = by (cases_order i j)
    where
      by : (i ≡ j) ⊎ ((i < j) ⊎ (j < i)) → i ≡ j
      by (inl one) = one
      by (inr (inl less)) = absurd (ordered f ps i j q r d e h same less)
      by (inr (inr more)) = absurd (ordered f ps j i r q d h e (sym same) more)

  abbrev t : Numbers
  t = s.numbers parts

  abbrev functions : Numbers
  functions = s.with_functions parts s.nothing

  all_grow : Grows functions t
  all_grow = grows_on functions _ t (own_grows scalars functions)
      (grows_on (s.with_own scalars functions) _ t (own_grows arrays (s.with_own scalars functions))
      (parts_grow parts (s.with_own arrays (s.with_own scalars functions))))

  pub injective : Injective t
  injective = all_grow.injective (functions_injective parts s.nothing nothing_injective)

  no_scopes : Scopes parts s.nothing
  no_scopes f c l = absurd (cc)

  -- what stands under a text is the scope of its function
  pub scopes : Scopes parts t
  scopes f c l = functions_scopes parts parts s.nothing (λ p h. h) no_scopes f c
      (ap (λ fs. lookup (bytes_eq f) fs) (sym all_grow.functions_same) ∙ l)

  pub defined : (g : Name) (ps : List Name) → Defines parts g ps → (c : Scope) × (base : ℕ)
      × (lookup (bytes_eq g.text) t.functions ≡ Some c) × Scoped base ps c
  defined g ps (p, h, e) =
      let (c, l) = functions_have parts p g ps s.nothing h e in
      let l2 : lookup (bytes_eq g.text) t.functions ≡ Some c =
      ap (λ fs. lookup (bytes_eq g.text) fs) all_grow.functions_same ∙ l in
      let (f, qs, base, d, same, k) = scopes g.text c l2 in
      (c, base, l2, rw (function_once f g qs ps d (p, h, e) same) at k)

  in_function : (f : Name) (ps : List Name) (x : Text) → Defines parts f ps
      → option_or (number t (parameter f.text x)) (number t (global x))
      ≡ number t (if is_among (texts ps) x then parameter f.text x else global x)
  in_function f ps x d = by (is_among (texts ps) x) refl
    where
      by : (b : Bool) → is_among (texts ps) x ≡ b → option_or (number t (parameter f.text x)) (number t (global x))
          ≡ number t (if b then parameter f.text x else global x)
      by true h =
          let (c, base, l, k) = defined f ps d in
          let (i, q, there, is) = text_of ps x (among_contains (texts ps) x h) in
          let (n, e) = scope_numbers base ps c k i q there in
          let found : number t (parameter f.text x) ≡ Some n = ap (λ o. in_perhaps o x) l ∙ (rw is at e) in
          rw found refl
      by false h = none (number t (parameter f.text x)) refl
        where
          none : (o : Option ℕ) → number t (parameter f.text x) ≡ o → option_or o (number t (global x))
              ≡ number t (global x)
          none None e = refl
          none (Some n) e =
              let (c, base, l, k) = defined f ps d in
              let there : in_scope c x ≡ Some n = ap (λ o. in_perhaps o x) (sym l) ∙ e in
              let (i, q, at, is, f2) = scope_known base ps c k x n there in
              let yes_there = contains_among (texts ps) x (rw is at (texts_at ps i q at)) in
              absurd (cc)

  -- an item finds the number of what a text means there
  pub here : (p : Section) (x : Text) → Contains parts p → number_in t p.role x ≡ number t (meant p.role x)
  here p x c = by p.role refl
    where
      by : (r : Role) → p.role ≡ r → number_in t r x ≡ number t (meant r x)
      by role.Begin e = refl
      by role.End e = refl
      by role.Rule e = refl
      by (role.Function f ps) e = in_function f ps x (p, c, e)

  -- each name has a number
  pub known : (p : Section) (m : Mention) (n : Name) → Contains parts p → Contains p.mentions m → Names m n
      → Known t p.role n.text
  known p m n c d h = parts_known parts p m n (s.with_own arrays (s.with_own scalars functions)) c d h

  pub own_scalar_known : (x : Text) → Contains scalars x → Known t role.Begin x
  own_scalar_known x c =
      known_keeps (s.with_own scalars functions) t role.Begin x
      (grows_on (s.with_own scalars functions) _ t (own_grows arrays (s.with_own scalars functions))
      (parts_grow parts (s.with_own arrays (s.with_own scalars functions))))
      (own_known scalars x functions c)

  pub own_array_known : (x : Text) → Contains arrays x → Known t role.Begin x
  own_array_known x c =
      known_keeps (s.with_own arrays (s.with_own scalars functions)) t role.Begin x
      (parts_grow parts (s.with_own arrays (s.with_own scalars functions)))
      (own_known arrays x (s.with_own scalars functions) c)

  -- a parameter stands at its place in the scope of its function
  pub taken : (f : Text) (c : Scope) (i n : ℕ) → lookup (bytes_eq f) t.functions ≡ Some c
      → slice_get c.numbers i ≡ Some n
      → (q : Name) × Takes parts f i q × (number t (parameter f q.text) ≡ Some n)
  taken f c i n l e =
      let (g, ps, base, d, same, k) = scopes f c l in
      let inside = slice_get_within c.numbers i n e in
      let count = k.count in
      let (q, at) = there_is ps i (omega (arith, inside, count)) in
      let (j, there) = k.complete i q at in
      let (r, at2, is) = k.sound q.text j there in
      let one = parameter_once g ps j i r q d at2 at is in
      let found : in_scope c q.text ≡ Some n = ap (at_position c.numbers) there ∙ (rw (sym one) at e) in
      (q, (g, ps, d, same, at), ap (λ o. in_perhaps o q.text) l ∙ found)

  pub takes : (f : Text) (i : ℕ) (q : Name) → Takes parts f i q
      → (c : Scope) × (n : ℕ) × (lookup (bytes_eq f) t.functions ≡ Some c) × (slice_get c.numbers i ≡ Some n)
      × (number t (parameter f q.text) ≡ Some n)
  takes f i q (g, ps, d, same, at) =
      let (c, base, l, k) = defined g ps d in
      let l2 : lookup (bytes_eq f) t.functions ≡ Some c = ap (λ x. lookup (bytes_eq x) t.functions) (sym same) ∙ l in
      let inside = slice_get_within ps i q at in
      let count = k.count in
      let (n, e) = there_is c.numbers i (omega (arith, inside, count)) in
      let (r, (h, qs, d2, same2, at2), found) = taken f c i n l2 e in
      let lists = function_once g h ps qs d d2 (same ∙ sym same2) in
      let at3 = rw (sym lists) at at2 in
      let one : r ≡ q = cc in
      (c, n, l2, e, rw one at found)
