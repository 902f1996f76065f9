-- What the names of a script are (POSIX.1-2017 XCU awk, "Variables and Special Variables": a variable is
-- there by being named, beside those that awk sets; "User-Defined Functions": the parameters of a
-- function are its own, and every other variable is one of the whole script).
use Rattle.std.specs.Prelude.{Bool, List, [], ◌∷◌, ◌++◌, map, Option, Some, None, if◌then◌else◌}
use Rattle.std.specs.List.{list_any}
use Rattle.std.specs.Str.{bytes_eq}
use Rattle.awk_tree.specs.Tree.{Text}
use Rattle.awk_tree.specs.declared.names.Name.{Name}
use Rattle.awk_resolve.specs.Kinds as k
use Rattle.awk_resolve.specs.Kinds.{Named, global, parameter, texts, scalars, arrays}
use Rattle.awk_resolve.specs.declared.mention.Mention.{Mention}
use Rattle.awk_resolve.specs.declared.mention.Mention.TheVariants.{Scalar, Array, Measured, Call}
use Rattle.awk_resolve.specs.declared.mention.Role.{Role}
use Rattle.awk_resolve.specs.declared.mention.Role.TheVariants as role
use Rattle.awk_resolve.specs.declared.mention.Section.{Section}
use Rattle.awk_resolve.specs.Marks.{has}
use Rattle.awk_resolve.specs.Said.{defined}
use Rattle.awk_resolve.specs.declared.kinds.Kinds.{Kinds}
use Rattle.awk_resolve.specs.Rolls.{added}

-- what the names of a whole script are
pub record Tables : Type 0 where
  -- its variables, awk's own first, and of each whether it is an array
  pub variables : List Text
  pub script_arrays : List Bool
  -- its functions, in order, and of each parameter of each whether it is an array
  pub functions : List Text
  pub arrays : List (List Bool)

-- ---- variables

-- the arguments that are names by themselves
abbrev pub given : List (Option Name) → List Name
given [] = []
given (None ∷ args) = given args
given (Some n ∷ args) = n ∷ given args

-- the names that stand for a variable: all but those of functions that are called
abbrev pub used : Mention → List Name
used (Scalar n) = n ∷ []
used (Array n) = n ∷ []
used (Measured n) = n ∷ []
used (Call f args) = given args
used m = []

abbrev pub all_used : List Mention → List Name
all_used [] = []
all_used (m ∷ ms) = used m ++ all_used ms

abbrev pub own_of : Role → List Text
own_of role.Begin = []
own_of role.End = []
own_of role.Rule = []
own_of (role.Function f ps) = texts ps

-- those that are no parameter
abbrev pub outside : List Text → List Name → List Text
outside ps [] = []
outside ps (n ∷ ns) = if list_any (bytes_eq n.text) ps then outside ps ns else n.text ∷ outside ps ns

abbrev pub mentioned : List Section → List Text
mentioned [] = []
mentioned (p ∷ ps) = outside (own_of p.role) (all_used p.mentions) ++ mentioned ps

-- texts behind others, each where it stands first
abbrev pub behind : List Text → List Text → List Text
behind before [] = before
behind before (x ∷ xs) = behind (added x before) xs

-- awk's own variables, and then each other one where the script names it first
abbrev pub variables : List Section → List Text
variables parts = behind (scalars ++ arrays) (mentioned parts)

-- ---- arrays

-- of each parameter whether it is an array
abbrev pub flags : (Named → Bool) → Role → List (List Bool)
flags is_array role.Begin = []
flags is_array role.End = []
flags is_array role.Rule = []
flags is_array (role.Function f ps) = map (λ q. is_array (parameter f.text q.text)) ps ∷ []

-- of each function
abbrev pub all_flags : (Named → Bool) → List Section → List (List Bool)
all_flags is_array [] = []
all_flags is_array (p ∷ ps) = flags is_array p.role ++ all_flags is_array ps

abbrev pub variable_flags : (Named → Bool) → List Text → List Bool
variable_flags is_array xs = map (λ x. is_array (global x)) xs

-- ---- the tables of a script, whose kinds tell which names are arrays

abbrev pub arrays_by : Kinds → Named → Bool
arrays_by c a = has c a k.array

abbrev pub tables : Kinds → List Section → Tables
tables c parts = record {
  variables = variables parts;
  script_arrays = variable_flags (arrays_by c) (variables parts);
  functions = texts (defined parts);
  arrays = all_flags (arrays_by c) parts;
}
