-- What the names of a script stand for in one of its items (POSIX.1-2017 XCU awk, "User-Defined Functions": a
-- parameter is a name of its own function alone, and every other name one of the whole script), and by which profile
-- its constants are read.
use Rattle.std.specs.Prelude.{ℕ, Bool, false, List, [], get_or, position, Option, Some, None}
use Rattle.std.specs.Str.{bytes_eq}
use Rattle.awk_numbers.specs.declared.number.Numbers.{Numbers}
use Rattle.awk_tree.specs.Tree.{Text}
use Rattle.awk_program.specs.Program as p
use Rattle.awk_program.specs.Program.{Variable}

pub record Scope : Type 0 where
  -- which numbers the script has
  pub numbers : Numbers
  -- the parameters of the function that the item is, and none in any other
  pub parameters : List Text
  -- of each of them whether it is an array
  pub own_arrays : List Bool
  -- the variables of the whole script
  pub variables : List Text
  -- of each of them whether it is an array
  pub script_arrays : List Bool
  -- the functions of the script, in order
  pub functions : List Text
  -- of each of them, of each parameter whether it is an array
  pub arrays : List (List Bool)

abbrev pub variable_by : Text → Option ℕ → Variable
variable_by x (Some n) = p.parameter n
variable_by x None = p.global x

-- a parameter by its place among those of its function
abbrev pub variable : Scope → Text → Variable
variable c x = variable_by x (position (bytes_eq x) c.parameters)

-- a function by its place among those of the script, of which it is one
abbrev pub number_by : Option ℕ → ℕ
number_by (Some n) = n
number_by None = 0

abbrev pub function : Scope → Text → ℕ
function c x = number_by (position (bytes_eq x) c.functions)

-- of each of its parameters whether it is an array
abbrev pub arrays_by : List (List Bool) → Option ℕ → List Bool
arrays_by all (Some n) = get_or all n []
arrays_by all None = []

abbrev pub arrays_of : Scope → Text → List Bool
arrays_of c x = arrays_by c.arrays (position (bytes_eq x) c.functions)

-- whether a name is an array
abbrev pub is_set : List Bool → Option ℕ → Bool
is_set flags (Some n) = get_or flags n false
is_set flags None = false

abbrev pub array_by : Scope → Text → Option ℕ → Bool
array_by c x (Some n) = get_or c.own_arrays n false
array_by c x None = is_set c.script_arrays (position (bytes_eq x) c.variables)

abbrev pub is_array : Scope → Text → Bool
is_array c x = array_by c x (position (bytes_eq x) c.parameters)
