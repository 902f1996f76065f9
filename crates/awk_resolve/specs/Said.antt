-- What is said of the names of a script.
use Rattle.std.specs.Prelude.{◌≡◌, List, [], ◌∷◌, ◌++◌, Some, Contains}
use Rattle.awk_tree.specs.declared.names.Name.{Name}
use Rattle.awk_resolve.specs.declared.mention.Mention.{Mention}
use Rattle.awk_resolve.specs.declared.mention.Mention.TheVariants.{Scalar, Array, Measured, Call}
use Rattle.awk_resolve.specs.declared.mention.Role.{Role}
use Rattle.awk_resolve.specs.declared.mention.Role.TheVariants as role
use Rattle.awk_resolve.specs.declared.mention.Section.{Section}

-- a name stands in what is said, other than as a function that is called
abbrev pub Names : Mention → Name → Type 0
Names (Scalar n) x = n ≡ x
Names (Array n) x = n ≡ x
Names (Measured n) x = n ≡ x
Names (Call f args) x = Contains args (Some x)
Names m x = ⊥

abbrev pub defined_by : Role → List Name
defined_by role.Begin = []
defined_by role.End = []
defined_by role.Rule = []
defined_by (role.Function f ps) = f ∷ []

-- the names of the functions, in the order of the script
abbrev pub defined : List Section → List Name
defined [] = []
defined (p ∷ ps) = defined_by p.role ++ defined ps
