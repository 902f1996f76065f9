-- Faults of a script beside its grammar and its kinds
-- (POSIX.1-2017 XCU awk, "Actions" and "User-Defined Functions").
use Rattle.std.specs.Prelude.{◌≡◌, ◌<◌, Bool, true, false, ◌||◌, List, ◌∷◌, ◌++◌, codes, length, Option, Some, None}
use Rattle.std.specs.Prelude.{Contains}
use Rattle.std.specs.List.{list_any}
use Rattle.std.specs.Str.{bytes_eq}
use Rattle.awk_tree.specs.Tree.{Text}
use Rattle.awk_text.specs.declared.place.Place.{Place}
use Rattle.awk_tree.specs.declared.names.Name.{Name}
use Rattle.awk_resolve.specs.declared.mention.Mention.{Mention}
use Rattle.awk_resolve.specs.declared.mention.Mention.TheVariants.{Scalar, Array, Measured, Call, MainInput, Next}
use Rattle.awk_resolve.specs.declared.mention.Mention.TheVariants.{Return, Stray}
use Rattle.awk_resolve.specs.declared.mention.Role.{Role}
use Rattle.awk_resolve.specs.declared.mention.Role.TheVariants as role
use Rattle.awk_resolve.specs.declared.mention.Section.{Section}
use Rattle.awk_resolve.specs.Kinds.{texts, scalars, arrays, Defines, Calls}

-- A word outside the statements that it belongs to: `next` or `nextfile` in BEGIN or END, `return` outside a
-- function, `break` or `continue` outside a loop.
pub data Misplaced (parts : List Section) : Place → Type 0 where
  next_in_begin : (p : Section) (place : Place) → Contains parts p → p.role ≡ role.Begin →
      Contains p.mentions (Next place) → Misplaced parts place
  next_in_end : (p : Section) (place : Place) → Contains parts p → p.role ≡ role.End → Contains p.mentions
      (Next place) →
      Misplaced parts place
  return_outside :
      (p : Section) (place : Place) → Contains parts p → ((f : Name) (ps : List Name) → p.role ≡ role.Function f ps
      → ⊥) →
      Contains p.mentions (Return place) →
      Misplaced parts place
  outside_loop : (p : Section) (place : Place) → Contains parts p → Contains p.mentions (Stray place) →
      Misplaced parts place

-- A function that an earlier item defines too, at its name.
pub data Redefined (parts : List Section) : Place → Type 0 where
  twice :
      (before after : List Section) (p : Section) (f g : Name) (ps qs : List Name) → parts ≡ before ++ p ∷ after
      → p.role
      ≡ role.Function f ps →
      Defines before g qs → g.text ≡ f.text → Redefined parts f.place

-- A call of a function that no item defines, or with more arguments than it has parameters.
pub data Miscalled (parts : List Section) : Place → Type 0 where
  undefined :
      (r : Role) (f : Name) (args : List (Option Name)) → Calls parts r f args →
      ((g : Name) (ps : List Name) → Defines parts g ps → g.text ≡ f.text → ⊥) →
      Miscalled parts f.place
  too_many :
      (r : Role) (f g : Name) (args : List (Option Name)) (ps : List Name) → Calls parts r f args → Defines parts g ps →
      g.text ≡ f.text →
      length ps < length args → Miscalled parts f.place

-- A parameter that an earlier one of the list has the name of, or a function, or a variable that awk sets.
pub data Misnamed (parts : List Section) : Place → Type 0 where
  parameter_twice :
      (f : Name) (ps before after : List Name) (q : Name) → Defines parts f ps → ps ≡ before ++ q ∷ after →
      Contains (texts before) q.text →
      Misnamed parts q.place
  as_function :
      (f g : Name) (ps qs : List Name) (q : Name) → Defines parts f ps → Contains ps q → Defines parts g qs → g.text
      ≡ q.text → Misnamed parts q.place
  as_variable :
      (f : Name) (ps : List Name) (q : Name) → Defines parts f ps → Contains ps q →
      Contains (scalars ++ arrays) q.text → Misnamed parts q.place

-- A function or a parameter that is not defined as it is used.
pub data Misdefined (parts : List Section) : Place → Type 0 where
  redefined : (place : Place) → Redefined parts place → Misdefined parts place
  misnamed : (place : Place) → Misnamed parts place → Misdefined parts place
  miscalled : (place : Place) → Miscalled parts place → Misdefined parts place

-- ---- what a run asks of a script

-- whether a part reads the main input
abbrev pub is_main_input : Mention → Bool
is_main_input MainInput = true
is_main_input m = false

-- BEGIN and functions alone take no records
abbrev pub takes_records : Role → Bool
takes_records role.Begin = false
takes_records role.End = true
takes_records role.Rule = true
takes_records (role.Function f ps) = false

-- an item that takes records, or a `getline` from the main input
abbrev pub reads_main : List Section → Bool
reads_main parts = list_any (λ p. takes_records p.role || list_any is_main_input p.mentions) parts

abbrev pub is_argument : Text → Option Name → Bool
is_argument x None = false
is_argument x (Some n) = bytes_eq n.text x

-- whether a name of this text stands there
abbrev pub is_name_of : Text → Mention → Bool
is_name_of x (Scalar n) = bytes_eq n.text x
is_name_of x (Array n) = bytes_eq n.text x
is_name_of x (Measured n) = bytes_eq n.text x
is_name_of x (Call f args) = bytes_eq f.text x || list_any (is_argument x) args
is_name_of x m = false

-- ENVIRON stands in the script. It names no function and no parameter of an accepted one.
abbrev pub names_environ : List Section → Bool
names_environ parts = list_any (λ p. list_any (is_name_of (codes "ENVIRON")) p.mentions) parts
