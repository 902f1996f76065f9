-- Where a clash shows: a name of two kinds stands there, or a call that gives an expression for an array.
use Rattle.std.specs.Prelude.{◌≡◌, ◌≢◌, ◌⊎◌, ℕ, Bool, true, List, Option, Some, None, slice_get, Contains}
use Rattle.awk_text.specs.declared.place.Place.{Place}
use Rattle.awk_tree.specs.Tree.{Text}
use Rattle.awk_tree.specs.declared.names.Name.{Name}
use Rattle.awk_resolve.specs.Kinds as k
use Rattle.awk_resolve.specs.Kinds.{Kind, NotAfter}
use Rattle.awk_resolve.specs.declared.mention.Mention.{Mention}
use Rattle.awk_resolve.specs.declared.mention.Mention.TheVariants.{Scalar, Array, Measured, Call}
use Rattle.awk_resolve.specs.declared.mention.Role.{Role}
use Rattle.awk_resolve.specs.declared.mention.Role.TheVariants as role
use Rattle.awk_resolve.specs.declared.mention.Section.{Section}
use Rattle.awk_resolve.specs.Numbering.{number_in}
use Rattle.awk_resolve.specs.Uses.{parameters}
use Rattle.awk_resolve.specs.Numbers.{is_function}
use Rattle.awk_resolve.specs.Marks.{is_marked}
use Rattle.awk_resolve.specs.declared.kinds.Kinds.{Kinds}

-- ---- two kinds

-- whether what a text is in an item of this role has this kind
abbrev pub has_in : Kinds → Role → Text → Kind → Bool
has_in c r x k.scalar = is_marked c.scalars (number_in c.numbers r x)
has_in c r x k.array = is_marked c.arrays (number_in c.numbers r x)
has_in c r x k.function = is_function c.numbers x

abbrev pub HasTwo : Kinds → Role → Text → Type 0
HasTwo c r x =
    (kind : Kind) × (other : Kind) × (has_in c r x kind ≡ true) × (has_in c r x other ≡ true) × (kind ≢ other)

-- an item of this role is a function whose name is of another kind too
abbrev pub IsDouble : Kinds → Role → Type 0
IsDouble c r = (f : Name) × (ps : List Name) × (r ≡ role.Function f ps) × HasTwo c role.Begin f.text

abbrev pub AnyDouble : Kinds → List Section → Type 0
AnyDouble c parts = (p : Section) × Contains parts p × IsDouble c p.role

-- a number is marked as a scalar and as an array
abbrev pub AnyTwice : Kinds → Type 0
AnyTwice c = (n : ℕ) × (is_marked c.scalars (Some n) ≡ true) × (is_marked c.arrays (Some n) ≡ true)

-- ---- places

-- the first place that is such a one, or none is
abbrev pub IsFirst : (Place → Type 0) → Option Place → Type 0
IsFirst P None = (q : Place) → P q → ⊥
IsFirst P (Some p) = P p × ((q : Place) → P q → NotAfter p q)

-- such a place of one of these
abbrev pub OneOf : {A : Type 0} → (A → Place → Type 0) → List A → Place → Type 0
OneOf {A} P xs q = (x : A) × Contains xs x × P x q

abbrev pub NameAt : Kinds → Role → Name → Place → Type 0
NameAt c r n q = HasTwo c r n.text × (n.place ≡ q)

abbrev pub ArgumentAt : Kinds → Role → Option Name → Place → Type 0
ArgumentAt c r None q = ⊥
ArgumentAt c r (Some n) q = NameAt c r n q

-- an argument is an expression, and the parameter in its place is an array
abbrev pub LacksArray : Kinds → List ℕ → List (Option Name) → Type 0
LacksArray c ps args = (i : ℕ) × (slice_get args i ≡ Some None) × (is_marked c.arrays (slice_get ps i) ≡ true)

abbrev pub CallAt : Kinds → Name → List (Option Name) → Place → Type 0
CallAt c f args q = LacksArray c (parameters c.numbers f.text) args × (f.place ≡ q)

abbrev pub MentionAt : Kinds → Role → Mention → Place → Type 0
MentionAt c r (Scalar n) q = NameAt c r n q
MentionAt c r (Array n) q = NameAt c r n q
MentionAt c r (Measured n) q = NameAt c r n q
MentionAt c r (Call f args) q = (NameAt c role.Begin f q ⊎ CallAt c f args q) ⊎ OneOf (ArgumentAt c r) args q
MentionAt c r m q = ⊥

abbrev pub RoleAt : Kinds → Role → Place → Type 0
RoleAt c role.Begin q = ⊥
RoleAt c role.End q = ⊥
RoleAt c role.Rule q = ⊥
RoleAt c (role.Function f ps) q = NameAt c role.Begin f q ⊎ OneOf (NameAt c (role.Function f ps)) ps q

abbrev pub PartAt : Kinds → Section → Place → Type 0
PartAt c p q = RoleAt c p.role q ⊎ OneOf (MentionAt c p.role) p.mentions q
