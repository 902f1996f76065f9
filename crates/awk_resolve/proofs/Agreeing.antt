-- The first place at which a clash shows is that of the first clash; where it shows nowhere, the kinds agree.
use Rattle.std.proofs.Common.{◌≡◌, ◌≢◌, ◌⊎◌, inl, inr, ◌∙◌, ℕ, Bool, true, false, List, [], ◌∷◌, refl, sym, ap, Option}
use Rattle.std.proofs.Common.{Some, None, IfNone, Contains, slice_get, codes, if◌then◌else◌}
use Rattle.awk_text.specs.declared.place.Place.{Place}
use Rattle.awk_tokens.specs.Words.{is_among}
use Rattle.awk_tree.specs.Tree.{Text}
use Rattle.awk_tree.specs.declared.names.Name.{Name}
use Rattle.awk_resolve.specs.Kinds as k
use Rattle.awk_resolve.specs.Kinds.{Kind, Named, global, parameter, Defines, Takes, Calls, texts, meant, Forced}
use Rattle.awk_resolve.specs.Kinds.{Appears, NotAfter, Clashes, Agrees, scalars, arrays}
use Rattle.awk_resolve.specs.Faults.{Misdefined}
use Rattle.awk_resolve.specs.declared.mention.Mention as m
use Rattle.awk_resolve.specs.declared.mention.Mention.TheVariants as said
use Rattle.awk_resolve.specs.declared.mention.Role.{Role}
use Rattle.awk_resolve.specs.declared.mention.Role.TheVariants as role
use Rattle.awk_resolve.specs.declared.mention.Section.{Section}
use Rattle.awk_resolve.proofs.Lists.{contains_none, contains_cases}
use Rattle.awk_resolve.proofs.Naming.{contains_among}
use Rattle.awk_resolve.specs.Clash.{has_in, HasTwo, IsFirst, OneOf, NameAt, CallAt, MentionAt, RoleAt, PartAt}
use Rattle.awk_resolve.specs.Numbering.{number_in, numbers}
use Rattle.awk_resolve.specs.Numbers.{number, is_function}
use Rattle.awk_resolve.specs.Uses as u
use Rattle.awk_resolve.specs.Marks.{is_marked, has, AreKinds}
use Rattle.awk_resolve.specs.declared.kinds.Kinds.{Kinds}
use Rattle.awk_resolve.proofs.Reaching.{found_at, at_found}
use Rattle.awk_resolve.proofs.Meant.{here, takes, texts_at}
use Rattle.awk_resolve.proofs.Kinding.{function_known, meant_function, parameter_place}

-- ---- two kinds

abbrev TwoKinds : Kinds → Named → Type 0
TwoKinds c a = (kind : Kind) × (other : Kind) × (has c a kind ≡ true) × (has c a other ≡ true) × (kind ≢ other)

moved : (c : Kinds) (a b : Named) → a ≡ b → TwoKinds c a → TwoKinds c b
moved c a b e two = rw e at two

in_same : (c : Kinds) (r s : Role) (x : Text) → r ≡ s → HasTwo c r x → HasTwo c s x
in_same c r s x e two = rw e at two

begin_same : (c : Kinds) (x : Text) (kind : Kind) → has_in c role.Begin x kind ≡ has c (global x) kind
begin_same c x k.scalar = refl
begin_same c x k.array = refl
begin_same c x k.function = refl

of_begin : (c : Kinds) (x : Text) → HasTwo c role.Begin x → TwoKinds c (global x)
of_begin c x (kind, other, g, h, differs) = (
  kind,
  other,
  sym (begin_same c x kind) ∙ g,
  sym (begin_same c x other) ∙ h,
  differs,
)

to_begin : (c : Kinds) (x : Text) → TwoKinds c (global x) → HasTwo c role.Begin x
to_begin c x (kind, other, g, h, differs) = (kind, other, begin_same c x kind ∙ g, begin_same c x other ∙ h, differs)

either_kind : (kind other : Kind) → (kind ≡ other) ⊎ (kind ≢ other)
either_kind k.scalar k.scalar = inl refl
either_kind k.array k.array = inl refl
either_kind k.function k.function = inl refl
either_kind k.scalar k.array = inr (λ same. cc)
either_kind k.scalar k.function = inr (λ same. cc)
either_kind k.array k.scalar = inr (λ same. cc)
either_kind k.array k.function = inr (λ same. cc)
either_kind k.function k.scalar = inr (λ same. cc)
either_kind k.function k.array = inr (λ same. cc)

-- a name of which something is forced appears, or is a variable that awk sets
abbrev Own : Named → Kind → Type 0
Own a kind = (x : Text) × (a ≡ global x) × (((kind ≡ k.scalar) × Contains scalars x)
    ⊎ ((kind ≡ k.array) × Contains arrays x))

shown : (parts : List Section) (a : Named) (kind : Kind) → Forced parts a kind → ((q : Place) × Appears parts a q)
    ⊎ Own a kind
shown parts a kind (k.own_scalar x c) = inr (x, refl, inl (refl, c))
shown parts a kind (k.own_array x c) = inr (x, refl, inr (refl, c))
shown parts a kind (k.defined f ps d) = inl (f.place, k.as_function f ps d)
shown parts a kind (k.read_or_set p n c d) = inl (n.place, k.as_scalar p n c d)
shown parts a kind (k.subscripted p n c d) = inl (n.place, k.as_array p n c d)
shown parts a kind (k.measured_function p n g ps c d def h) = inl (g.place, k.as_function g ps def)
shown parts a kind (k.handed_function r f args n g ps c d def h) = inl (g.place, k.as_function g ps def)
shown parts a kind (k.handed r f args i n q kind2 c d tk forced) =
    inl (n.place, k.as_argument r f args n c (at_found args i (Some n) d))
shown parts a kind (k.measured r f args i n q c d (g, ps, def, same, place) asks forced) =
    inl (q.place, rw same at (k.as_parameter g ps q def (at_found ps i q place)))

no_own_array : (x : Text) → Contains scalars x → Contains arrays x → ⊥
no_own_array x c d = by (contains_cases (codes "ARGV") (codes "ENVIRON" ∷ []) x d)
  where
    not_among : (y : Text) → y ≡ x → is_among scalars y ≡ false → ⊥
    not_among y same e = let yes_there = contains_among scalars x c in let e2 = rw same at e in cc

    by : (codes "ARGV" ≡ x) ⊎ Contains (codes "ENVIRON" ∷ []) x → ⊥
    by (inl same) = not_among (codes "ARGV") same refl
    by (inr e) = elim (contains_cases (codes "ENVIRON") [] x e) [
      | inl same ↦ not_among (codes "ENVIRON") same refl
      | inr
          none ↦ contains_none x none
    ]

own_agree : (a : Named) (kind other : Kind) → Own a kind → Own a other → kind ≡ other
own_agree a kind other (x, is, one) (y, is2, two2) = by one two2
  where
    same : x ≡ y
    same = let e : global x ≡ global y = sym is ∙ is2 in cc

    by : ((kind ≡ k.scalar) × Contains scalars x) ⊎ ((kind ≡ k.array) × Contains arrays x)
        → ((other ≡ k.scalar) × Contains scalars y) ⊎ ((other ≡ k.array) × Contains arrays y) → kind ≡ other
    by (inl (e, c)) (inl (f, d)) = e ∙ sym f
    by (inr (e, c)) (inr (f, d)) = e ∙ sym f
    by (inl (e, c)) (inr (f, d)) = absurd (no_own_array x c (rw (sym same) at d))
    by (inr (e, c)) (inl (f, d)) = absurd (no_own_array x (rw (sym same) at d) c)

-- ---- the places that are found are those of the clashes

module _ (parts : List Section) (well : (place : Place) → Misdefined parts place → ⊥) (c : Kinds)
    (is : c.numbers ≡ numbers parts) (kinds : AreKinds parts c) where
  number_same : (p : Section) (x : Text) → Contains parts p → number_in c.numbers p.role x ≡ number c.numbers
      (meant p.role x)
  number_same p x d = ap (λ z. number_in z p.role x) is ∙ (here parts well p x d ∙ ap (λ z. number z (meant p.role x))
      (sym is))

  function_same : (p : Section) (x : Text) → Contains parts p
      → is_function c.numbers x ≡ has c (meant p.role x) k.function
  function_same p x d = by p.role refl
    where
      in_function : (f : Name) (ps : List Name) (b g : Bool) → p.role ≡ role.Function f ps → is_among (texts ps) x ≡ b
          → is_function c.numbers x ≡ g
          → is_function c.numbers x ≡ has c (if b then parameter f.text x else global x) k.function
      in_function f ps false g e h i = refl
      in_function f ps true false e h i = i
      in_function f ps true true e h i =
          let (g, qs, def, same) = function_known parts well x (ap (λ z. is_function z x) (sym is) ∙ i) in
          let meaning = meant_function parts well p g qs x d def same in
          let plain : meant p.role x ≡ meant (role.Function f ps) x = ap (λ r. meant r x) e in
          let inside : meant (role.Function f ps) x ≡ parameter f.text x =
          ap (λ b. if b then parameter f.text x else global x) h in
          let wrong : parameter f.text x ≡ global g.text = sym inside ∙ (sym plain ∙ meaning) in
          absurd (cc)

      by : (r : Role) → p.role ≡ r → is_function c.numbers x ≡ has c (meant r x) k.function
      by role.Begin e = refl
      by role.End e = refl
      by role.Rule e = refl
      by (role.Function f ps) e = in_function f ps (is_among (texts ps) x) (is_function c.numbers x) e refl refl

  kind_same : (p : Section) (x : Text) → Contains parts p → (kind : Kind)
      → has_in c p.role x kind ≡ has c (meant p.role x) kind
  kind_same p x d k.scalar = ap (is_marked c.scalars) (number_same p x d)
  kind_same p x d k.array = ap (is_marked c.arrays) (number_same p x d)
  kind_same p x d k.function = function_same p x d

  of_part : (p : Section) (x : Text) → Contains parts p → HasTwo c p.role x → TwoKinds c (meant p.role x)
  of_part p x d (kind, other, g, h, differs) = (
    kind,
    other,
    sym (kind_same p x d kind) ∙ g,
    sym (kind_same p x d other)
        ∙ h,
    differs,
  )

  to_part : (p : Section) (x : Text) → Contains parts p → TwoKinds c (meant p.role x) → HasTwo c p.role x
  to_part p x d (kind, other, g, h, differs) = (
    kind,
    other,
    kind_same p x d kind ∙ g,
    kind_same p x d other ∙ h,
    differs,
  )

  abbrev Shows : Place → Type 0
  Shows q = (a : Named) × Appears parts a q × TwoKinds c a

  abbrev NoArray : Place → Type 0
  NoArray q =
      (p : Section) × (f : Name) × (args : List (Option Name)) × (i : ℕ) × (x : Name) × Contains parts p
      × Contains p.mentions (said.Call f args) × (slice_get args i ≡ Some None)
      × Takes parts f.text i x × (has c (parameter f.text x.text) k.array ≡ true) × (f.place ≡ q)

  abbrev All : Place → Type 0
  All q = OneOf (PartAt c) parts q

  -- from a place to a clash

  name_shows : (p : Section) (n : Name) (q : Place) → Contains parts p → Appears parts (meant p.role n.text) n.place
      → NameAt c p.role n q → Shows q
  name_shows p n q d appears (two, at2) = (meant p.role n.text, rw at2 at appears, of_part p n.text d two)

  function_shows : (f : Name) (q : Place) → Appears parts (global f.text) f.place → NameAt c role.Begin f q → Shows q
  function_shows f q appears (two, at2) = (global f.text, rw at2 at appears, of_begin c f.text two)

  call_lacks : (p : Section) (f : Name) (args : List (Option Name)) (q : Place) → Contains parts p
      → Contains p.mentions (said.Call f args) → CallAt c f args q → NoArray q
  call_lacks p f args q d e ((i, none, marked), at2) = by i none (slice_get (u.parameters c.numbers f.text) i) refl
      marked
    where
      by : (i : ℕ) → slice_get args i ≡ Some None → (o : Option ℕ) → slice_get (u.parameters c.numbers f.text) i ≡ o
          → is_marked c.arrays o ≡ true → NoArray q
      by i none None l h = cc
      by i none (Some n) l h =
          let l2 = ap (λ z. slice_get (u.parameters z f.text) i) (sym is) ∙ l in
          let (x, tk, numbered) = parameter_place parts well f.text i n l2 in
          let there : number c.numbers (parameter f.text x.text) ≡ Some n = ap (λ z. number z (parameter f.text x.text))
          is ∙ numbered in
          (p, f, args, i, x, d, e, none, tk, ap (is_marked c.arrays) there ∙ h, at2)

  mention_stands : (p : Section) (n : m.Mention) (q : Place) → Contains parts p → Contains p.mentions n
      → MentionAt c p.role n q → Shows q ⊎ NoArray q
  mention_stands p (said.Scalar n) q d e h = inl (name_shows p n q d (k.as_scalar p n d e) h)
  mention_stands p (said.Array n) q d e h = inl (name_shows p n q d (k.as_array p n d e) h)
  mention_stands p (said.Measured n) q d e h = inl (name_shows p n q d (k.as_measured p n d e) h)
  mention_stands p (said.Call f args) q d e (inl (inl h)) =
      inl (function_shows f q (k.as_call p.role f args (p, d, refl, e)) h)
  mention_stands p (said.Call f args) q d e (inl (inr h)) = inr (call_lacks p f args q d e h)
  mention_stands p (said.Call f args) q d e (inr (None, g, h)) = absurd h
  mention_stands p (said.Call f args) q d e (inr (Some n, g, h)) =
      inl (name_shows p n q d (k.as_argument p.role f args n (p, d, refl, e) g) h)
  mention_stands p n q d e h = absurd h

  among_meant : (f : Name) (ps : List Name) (n : Name) → Contains ps n → meant (role.Function f ps) n.text
      ≡ parameter f.text n.text
  among_meant f ps n e =
      let (i, below, at2) = found_at ps n e in
      let among : is_among (texts ps) n.text ≡ true = contains_among (texts ps) n.text (texts_at ps i n at2) in
      ap (λ b. if b then parameter f.text n.text else global n.text) among

  role_stands : (p : Section) (q : Place) → Contains parts p → RoleAt c p.role q → Shows q ⊎ NoArray q
  role_stands p q d h = by p.role refl h
    where
      param : (f : Name) (ps : List Name) (n : Name) → p.role ≡ role.Function f ps → Contains ps n
          → NameAt c (role.Function f ps) n q → Shows q
      param f ps n e g h2 =
          let appears = k.as_parameter f ps n (p, d, e) g in
          let meaning : meant p.role n.text ≡ parameter f.text n.text = ap (λ r. meant r n.text) e
          ∙ among_meant f ps n g in
          name_shows p n q d (rw (sym meaning) at appears) (
            in_same c (role.Function f ps) p.role n.text (sym e) h2.0,
            h2.1,
          )

      by : (r : Role) → p.role ≡ r → RoleAt c r q → Shows q ⊎ NoArray q
      by role.Begin e h2 = absurd h2
      by role.End e h2 = absurd h2
      by role.Rule e h2 = absurd h2
      by (role.Function f ps) e (inl h2) = inl (function_shows f q (k.as_function f ps (p, d, e)) h2)
      by (role.Function f ps) e (inr (n, g, h2)) = inl (param f ps n e g h2)

  stands : (q : Place) → All q → Shows q ⊎ NoArray q
  stands q (p, d, inl h) = role_stands p q d h
  stands q (p, d, inr (n, e, h)) = mention_stands p n q d e h

  -- and back

  in_role : (p : Section) (f : Name) (ps : List Name) (q : Place) → Contains parts p → p.role ≡ role.Function f ps
      → RoleAt c (role.Function f ps) q → All q
  in_role p f ps q d e h = (p, d, inl (rw e h))

  in_mention : (p : Section) (n : m.Mention) (q : Place) → Contains parts p → Contains p.mentions n
      → MentionAt c p.role n q → All q
  in_mention p n q d e h = (p, d, inr (n, e, h))

  shown_there : (a : Named) (q : Place) → TwoKinds c a → Appears parts a q → All q
  shown_there a q two (k.as_function f ps (p, d, g)) = in_role p f ps f.place d g (inl (to_begin c f.text two, refl))
  shown_there a q two (k.as_parameter f ps n (p, d, g) h) =
      let meaning : meant p.role n.text ≡ parameter f.text n.text = ap (λ r. meant r n.text) g ∙ among_meant f ps n h in
      let there : HasTwo c p.role n.text = to_part p n.text d (moved c (parameter f.text n.text) (meant p.role n.text)
      (sym meaning) two) in
      in_role p f ps n.place d g (inr (n, h, (in_same c p.role (role.Function f ps) n.text g there, refl)))
  shown_there a q two (k.as_scalar p n d g) = in_mention p (said.Scalar n) n.place d g (to_part p n.text d two, refl)
  shown_there a q two (k.as_array p n d g) = in_mention p (said.Array n) n.place d g (to_part p n.text d two, refl)
  shown_there a q two (k.as_measured p n d g) = in_mention p (said.Measured n) n.place d g (
    to_part p n.text d two,
    refl,
  )
  shown_there a q two (k.as_call r f args (p, d, g, h)) = in_mention p (said.Call f args) f.place d h
      (inl (inl (to_begin c f.text two, refl)))
  shown_there a q two (k.as_argument r f args n (p, d, g, h) i) =
      let there : TwoKinds c (meant p.role n.text) = moved c (meant r n.text) (meant p.role n.text)
      (ap (λ z. meant z n.text) (sym g)) two in
      in_mention p (said.Call f args) n.place d h (inr (Some n, i, (to_part p n.text d there, refl)))

  lacks_there : (q : Place) → NoArray q → All q
  lacks_there q (p, f, args, i, x, d, e, none, tk, array, at2) =
      let (sc, n, l, place, numbered) = takes parts well f.text i x tk in
      let there : number c.numbers (parameter f.text x.text) ≡ Some n = ap (λ z. number z (parameter f.text x.text)) is
      ∙ numbered in
      let marked : is_marked c.arrays (Some n) ≡ true = ap (is_marked c.arrays) (sym there) ∙ array in
      let in_scope : slice_get (u.parameters c.numbers f.text) i ≡ Some n =
      ap (λ z. slice_get (u.parameters z f.text) i) is ∙ (ap (λ z. slice_get (u.parameters_of z) i) l ∙ place) in
      let marked2 : is_marked c.arrays (slice_get (u.parameters c.numbers f.text) i) ≡ true =
      ap (is_marked c.arrays) in_scope ∙ marked in
      in_mention p (said.Call f args) q d e (inl (inr ((i, none, marked2), at2)))

  -- ---- the answers

  agrees : IsFirst All None → Agrees parts
  agrees none a kind other e f = elim (either_kind kind other) [
    | inl same ↦ same
    | inr differs ↦ elim (shown parts a kind e) [
      | inl there ↦ absurd (none there.0 (shown_there a there.0 (two differs) there.1))
      | inr own ↦ elim (shown parts a other f) [
        | inl there ↦ absurd
            (none there.0 (shown_there a there.0 (two differs) there.1))
        | inr own2 ↦ own_agree a kind other own own2
      ]
    ]
  ]
    where
      two : kind ≢ other → TwoKinds c a
      two differs = (kind, other, (kinds a kind).1 e, (kinds a other).1 f, differs)

  pub none_agree : (o : Option Place) → IsFirst All o → IfNone o (Agrees parts)
  none_agree None none = agrees none
  none_agree (Some q) h = tt

  clash_there : (q : Place) → Clashes parts q → All q
  clash_there q (k.two_kinds a kind other place e f differs (appears, first)) =
      shown_there a place (kind, other, (kinds a kind).1 e, (kinds a other).1 f, differs) appears
  clash_there q (k.no_array r f args i x (p, d, g, h) none tk array) = lacks_there f.place (
    p,
    f,
    args,
    i,
    x,
    d,
    h,
    none,
    tk,
    (kinds (parameter f.text x.text) k.array).1 array,
    refl,
  )

  pub clashes : (o : Option Place) → IsFirst All o → IsFirst (Clashes parts) o
  clashes None none = λ q h. none q (clash_there q h)
  clashes (Some q) (there, below) = (by (stands q there), λ other h. below other (clash_there other h))
    where
      by : Shows q ⊎ NoArray q → Clashes parts q
      by (inl (a, appears, two)) =
          let (kind, other, g, h, differs) = two in
          let first : (place : Place) → Appears parts a place → NotAfter q place =
          λ place shows. below place (shown_there a place two shows) in
          k.two_kinds a kind other q ((kinds a kind).0 g) ((kinds a other).0 h) differs (appears, first)
      by (inr (p, f, args, i, x, d, g, none, tk, array, at2)) =
          rw at2 at (k.no_array p.role f args i x (p, d, refl, g) none tk
          ((kinds (parameter f.text x.text) k.array).0 array))
