-- What the searches for faults find: a word that is misplaced, a function or a parameter that cannot have its name,
-- a call that fits no function.
use Rattle.std.specs.Prelude.{◌≡◌, ◌<◌, ◌⊎◌, ◌↔◌, ℕ, Bool, ◌||◌, List, ◌∷◌, ◌++◌, length, Option, Some, None, is_some}
use Rattle.std.specs.Prelude.{Contains}
use Rattle.std.specs.Map.{lookup}
use Rattle.std.specs.Str.{bytes_eq}
use Rattle.awk_text.specs.declared.place.Place.{Place}
use Rattle.awk_tokens.specs.Words.{is_among}
use Rattle.awk_tree.specs.Tree.{Text}
use Rattle.awk_tree.specs.declared.names.Name.{Name}
use Rattle.awk_resolve.specs.Kinds.{Defines, texts, scalars, arrays}
use Rattle.awk_resolve.specs.TextTables.{with_text}
use Rattle.awk_resolve.specs.declared.mention.Mention.{Mention}
use Rattle.awk_resolve.specs.declared.mention.Mention.TheVariants.{Call, Next, Return, Stray}
use Rattle.awk_resolve.specs.declared.mention.Role.{Role}
use Rattle.awk_resolve.specs.declared.mention.Role.TheVariants as role
use Rattle.awk_resolve.specs.declared.mention.Section.{Section}

-- such a place, or none is
abbrev pub Finds : (Place → Type 0) → Option Place → Type 0
Finds P None = (q : Place) → P q → ⊥
Finds P (Some q) = P q

-- such a place of one of these, where it depends on those before it
abbrev pub OneAfter : {A : Type 0} → (List A → A → Place → Type 0) → List A → Place → Type 0
OneAfter {A} P xs q = (before after : List A) × (x : A) × (xs ≡ before ++ x ∷ after) × P before x q

-- something stands under a text
abbrev pub Has : {V : Type 0} → List (Text × V) → Text → Type 0
Has {V} table x = (v : V) × (lookup (bytes_eq x) table ≡ Some v)

-- ---- misplaced words

abbrev pub IsBeginOrEnd : Role → Type 0
IsBeginOrEnd r = (r ≡ role.Begin) ⊎ (r ≡ role.End)

abbrev pub IsFunction : Role → Type 0
IsFunction r = (f : Name) × (ps : List Name) × (r ≡ role.Function f ps)

-- a word that cannot stand in an item of this role
abbrev pub WordAt : Role → Mention → Place → Type 0
WordAt r (Next place) q = IsBeginOrEnd r × (place ≡ q)
WordAt r (Return place) q = (IsFunction r → ⊥) × (place ≡ q)
WordAt r (Stray place) q = place ≡ q
WordAt r m q = ⊥

-- ---- functions, by their texts, with the counts of their parameters

abbrev pub Counts : Type 0
Counts = List (Text × ℕ)

-- an item is a function of this text with so many parameters
abbrev pub Known : List Section → Text → ℕ → Type 0
Known parts x n = (f : Name) × (ps : List Name) × Defines parts f ps × (f.text ≡ x) × (length ps ≡ n)

-- the table has each function of these items, and nothing else
abbrev pub Knows : List Section → Counts → Type 0
Knows parts known = (x : Text) (n : ℕ) → (lookup (bytes_eq x) known ≡ Some n) ↔ Known parts x n

-- an item of this role is a function that the table has
abbrev pub KnownAt : Counts → Role → Place → Type 0
KnownAt known r q = (f : Name) × (ps : List Name) × (r ≡ role.Function f ps) × Has known f.text × (f.place ≡ q)

-- an item is a function that one of those before it is too
abbrev pub TwiceAt : List Section → Section → Place → Type 0
TwiceAt before p q = (f g : Name) × (ps qs : List Name) × (p.role ≡ role.Function f ps) × Defines before g qs
    × (g.text ≡ f.text) × (f.place ≡ q)

-- the table with the function that an item of this role is
abbrev pub with_role : Role → Counts → Counts
with_role role.Begin known = known
with_role role.End known = known
with_role role.Rule known = known
with_role (role.Function f ps) known = with_text f.text (length ps) known

-- ---- calls

-- a call of a function that the table lacks, or that has fewer parameters there
abbrev pub MiscallAt : Counts → Mention → Place → Type 0
MiscallAt known (Call f args) q =
    ((Has known f.text → ⊥) ⊎ ((n : ℕ) × (lookup (bytes_eq f.text) known ≡ Some n) × (n < length args))) × (f.place ≡ q)
MiscallAt known m q = ⊥

-- ---- parameters

-- the name of a function, or of a variable that awk sets
abbrev pub IsTaken : Counts → Text → Type 0
IsTaken known x = Has known x ⊎ Contains (scalars ++ arrays) x

-- whether a parameter has a name that is taken, or that was seen
abbrev pub is_misnamed : Counts → List (Text × Place) → Name → Bool
is_misnamed known seen n = is_some (lookup (bytes_eq n.text) seen)
    || (is_some (lookup (bytes_eq n.text) known) || is_among (scalars ++ arrays) n.text)

-- a parameter whose name is taken, or is that of one before it
abbrev pub ParameterAt : Counts → List Name → Name → Place → Type 0
ParameterAt known before n q = (Contains (texts before) n.text ⊎ IsTaken known n.text) × (n.place ≡ q)

-- such a parameter of an item of this role
abbrev pub MisnamedAt : Counts → Role → Place → Type 0
MisnamedAt known (role.Function f ps) q = OneAfter (ParameterAt known) ps q
MisnamedAt known r q = ⊥
