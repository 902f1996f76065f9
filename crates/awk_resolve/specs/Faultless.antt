-- Scripts in which every name and word stands where it can.
use Rattle.std.specs.Prelude.{◌≡◌, ℕ, List, map, Option, Some, None, slice_get}
use Rattle.awk_text.specs.declared.place.Place.{Place}
use Rattle.awk_tree.specs.declared.names.Name.{Name}
use Rattle.awk_resolve.specs.declared.mention.Role.{Role}
use Rattle.awk_resolve.specs.declared.mention.Section.{Section}
use Rattle.awk_resolve.specs.Kinds.{Forced, Agrees, Calls, Takes, array, parameter}
use Rattle.awk_resolve.specs.Faults.{Misplaced, Misdefined}
use Rattle.awk_resolve.specs.Mentions.{part}
use Rattle.awk_tree.specs.Tree.{Entry}
use Rattle.awk_tree.specs.Canon.{bare_entry}

-- no expression is given for an array
abbrev pub GivesArrays : List Section → Type 0
GivesArrays parts =
    (r : Role) (f : Name) (args : List (Option Name)) (i : ℕ) (q : Name) → Calls parts r f args → slice_get args i
    ≡ Some None → Takes parts f.text i q →
    Forced parts (parameter f.text q.text) array → ⊥

pub record Faultless (parts : List Section) : Type 0 where
  pub placed : (place : Place) → Misplaced parts place → ⊥
  pub defined : (place : Place) → Misdefined parts place → ⊥
  pub agrees : Agrees parts
  pub gives : GivesArrays parts

-- a script without places has no fault where the script has none
abbrev pub FaultlessPlacesAside : Type 0
FaultlessPlacesAside = (items : List Entry) → Faultless (map part items) → Faultless (map part (map bare_entry items))
