-- The kinds of names (POSIX.1-2017 XCU awk, "Variables and Special Variables" and "User-Defined
-- Functions": the same name is not both a function and a variable, nor a scalar and an array).
use Rattle.std.specs.Prelude.{◌≡◌, ◌≢◌, ◌⊎◌, ◌<◌, ◌≤◌, ℕ, List, [], ◌∷◌, map, codes, slice_get, Option, Some, None}
use Rattle.std.specs.Prelude.{Contains, if◌then◌else◌}
use Rattle.awk_tokens.specs.Words.{is_among}
use Rattle.awk_tree.specs.Tree.{Text}
use Rattle.awk_text.specs.declared.place.Place.{Place}
use Rattle.awk_tree.specs.declared.names.Name.{Name}
use Rattle.awk_resolve.specs.declared.mention.Mention.TheVariants.{Scalar, Array, Measured, Call}
use Rattle.awk_resolve.specs.declared.mention.Role.{Role}
use Rattle.awk_resolve.specs.declared.mention.Role.TheVariants as role
use Rattle.awk_resolve.specs.declared.mention.Section.{Section}

-- what a name of a script is used as
pub data Kind : Type 0 where
  scalar : Kind
  array : Kind
  function : Kind

-- A name of the whole script, or a parameter, which is a name of its own function alone.
pub data Named : Type 0 where
  global : Text → Named
  parameter : (function : Text) → Text → Named

abbrev pub texts : List Name → List Text
texts ns = map (λ n. n.text) ns

-- the name that a text is in an item of this role
abbrev pub meant : Role → Text → Named
meant role.Begin x = global x
meant role.End x = global x
meant role.Rule x = global x
meant (role.Function f ps) x = if is_among (texts ps) x then parameter f.text x else global x

-- the variables that awk sets, other than its two arrays
abbrev pub scalars : List Text
scalars =
    codes "ARGC" ∷ codes "CONVFMT" ∷ codes "FILENAME" ∷ codes "FNR" ∷ codes "FS" ∷ codes "NF" ∷ codes "NR"
    ∷ codes "OFMT" ∷ codes "OFS" ∷ codes "ORS"
    ∷ codes "RLENGTH" ∷ codes "RS" ∷ codes "RSTART" ∷ codes "SUBSEP" ∷ []

abbrev pub arrays : List Text
arrays = codes "ARGV" ∷ codes "ENVIRON" ∷ []

-- an item of the script is this function
abbrev pub Defines : List Section → Name → List Name → Type 0
Defines parts f ps = (p : Section) × Contains parts p × (p.role ≡ role.Function f ps)

-- an item of this role has this call
abbrev pub Calls : List Section → Role → Name → List (Option Name) → Type 0
Calls parts r f args = (p : Section) × Contains parts p × (p.role ≡ r) × Contains p.mentions (Call f args)

-- the function of this text has this parameter, at this number from 0
abbrev pub Takes : List Section → Text → ℕ → Name → Type 0
Takes parts f i q = (g : Name) × (ps : List Name) × Defines parts g ps × (g.text ≡ f) × (slice_get ps i ≡ Some q)

-- The names whose length is asked, by themselves or as the parameter that they are handed to by themselves:
-- the least set that is closed under these rules.
pub data Measures (parts : List Section) : Named → Type 0 where
  asked : (p : Section) (n : Name) → Contains parts p → Contains p.mentions (Measured n) →
      Measures parts (meant p.role n.text)
  handed_on :
      (r : Role) (f : Name) (args : List (Option Name)) (i : ℕ) (n q : Name) → Calls parts r f args → slice_get args i
      ≡ Some (Some n) →
      Takes parts f.text i q → Measures parts (parameter f.text q.text) → Measures parts (meant r n.text)

-- The least set of names with kinds that is closed under these rules. A name that is handed to a
-- parameter by itself is what the parameter is. A parameter whose length is asked is an array where
-- an array is handed to it.
pub data Forced (parts : List Section) : Named → Kind → Type 0 where
  own_scalar : (x : Text) → Contains scalars x → Forced parts (global x) scalar
  own_array : (x : Text) → Contains arrays x → Forced parts (global x) array
  defined : (f : Name) (ps : List Name) → Defines parts f ps → Forced parts (global f.text) function
  read_or_set : (p : Section) (n : Name) → Contains parts p → Contains p.mentions (Scalar n) →
      Forced parts (meant p.role n.text) scalar
  subscripted : (p : Section) (n : Name) → Contains parts p → Contains p.mentions (Array n) →
      Forced parts (meant p.role n.text) array
  -- a function has no length
  measured_function :
      (p : Section) (n g : Name) (ps : List Name) → Contains parts p → Contains p.mentions (Measured n) →
      Defines parts g ps →
      meant p.role n.text ≡ global g.text → Forced parts (global g.text) scalar
  -- a function's name is no argument
  handed_function :
      (r : Role) (f : Name) (args : List (Option Name)) (n g : Name) (ps : List Name) → Calls parts r f args →
      Contains args (Some n) → Defines parts g ps →
      meant r n.text ≡ global g.text → Forced parts (global g.text) scalar
  handed :
      (r : Role) (f : Name) (args : List (Option Name)) (i : ℕ) (n q : Name) (k : Kind) → Calls parts r f args →
      slice_get args i ≡ Some (Some n) →
      Takes parts f.text i q → Forced parts (parameter f.text q.text) k → Forced parts (meant r n.text) k
  measured :
      (r : Role) (f : Name) (args : List (Option Name)) (i : ℕ) (n q : Name) → Calls parts r f args → slice_get args i
      ≡ Some (Some n) →
      Takes parts f.text i q → Measures parts (parameter f.text q.text) → Forced parts (meant r n.text) array →
      Forced parts (parameter f.text q.text) array

-- where a name stands
pub data Appears (parts : List Section) : Named → Place → Type 0 where
  as_function : (f : Name) (ps : List Name) → Defines parts f ps → Appears parts (global f.text) f.place
  as_parameter : (f : Name) (ps : List Name) (q : Name) → Defines parts f ps → Contains ps q →
      Appears parts (parameter f.text q.text) q.place
  as_scalar : (p : Section) (n : Name) → Contains parts p → Contains p.mentions (Scalar n) →
      Appears parts (meant p.role n.text) n.place
  as_array : (p : Section) (n : Name) → Contains parts p → Contains p.mentions (Array n) →
      Appears parts (meant p.role n.text) n.place
  as_measured : (p : Section) (n : Name) → Contains parts p → Contains p.mentions (Measured n) →
      Appears parts (meant p.role n.text) n.place
  as_call : (r : Role) (f : Name) (args : List (Option Name)) → Calls parts r f args →
      Appears parts (global f.text) f.place
  as_argument : (r : Role) (f : Name) (args : List (Option Name)) (n : Name) → Calls parts r f args →
      Contains args (Some n) → Appears parts (meant r n.text) n.place

-- one place is not after another
abbrev pub NotAfter : Place → Place → Type 0
NotAfter a b = (a.line < b.line) ⊎ ((a.line ≡ b.line) × (a.column ≤ b.column))

abbrev pub FirstAppears : List Section → Named → Place → Type 0
FirstAppears parts n place = Appears parts n place × ((other : Place) → Appears parts n other → NotAfter place other)

-- Why a script has no kinds, and the place: a name of two kinds, at its first appearance; an
-- expression for an array, at the word of the call.
pub data Clashes (parts : List Section) : Place → Type 0 where
  two_kinds : (n : Named) (k l : Kind) (place : Place) → Forced parts n k → Forced parts n l → k ≢ l →
      FirstAppears parts n place → Clashes parts place
  no_array :
      (r : Role) (f : Name) (args : List (Option Name)) (i : ℕ) (q : Name) → Calls parts r f args → slice_get args i
      ≡ Some None → Takes parts f.text i q →
      Forced parts (parameter f.text q.text) array → Clashes parts f.place

-- no name is of two kinds
abbrev pub Agrees : List Section → Type 0
Agrees parts = (n : Named) (k l : Kind) → Forced parts n k → Forced parts n l → k ≡ l
