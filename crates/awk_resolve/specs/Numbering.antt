-- How the names of a script are numbered: parameters first, function by function, and then each
-- other name where it stands first.
use Rattle.std.specs.Prelude.{ℕ, ◌+◌, List, [], ◌∷◌, ◌++◌, length, Option, Some, None}
use Rattle.std.specs.Map.{lookup}
use Rattle.std.specs.Option.{option_or}
use Rattle.std.specs.Str.{bytes_eq}
use Rattle.awk_tree.specs.Tree.{Text}
use Rattle.awk_tree.specs.declared.names.Name.{Name}
use Rattle.awk_resolve.specs.Kinds.{global, parameter, scalars, arrays}
use Rattle.awk_resolve.specs.Numbers.{number}
use Rattle.awk_resolve.specs.TextTables.{with_text}
use Rattle.awk_resolve.specs.declared.mention.Mention.{Mention}
use Rattle.awk_resolve.specs.declared.mention.Mention.TheVariants.{Scalar, Array, Measured, Call}
use Rattle.awk_resolve.specs.declared.mention.Role.{Role}
use Rattle.awk_resolve.specs.declared.mention.Role.TheVariants as role
use Rattle.awk_resolve.specs.declared.mention.Section.{Section}
use Rattle.awk_resolve.specs.declared.numbers.Globals.{Globals}
use Rattle.awk_resolve.specs.declared.numbers.Scope.{Scope}
use Rattle.awk_resolve.specs.declared.numbers.Numbers.{Numbers}

-- ---- the number of a name in an item

-- the parameters of the function that an item of this role is
abbrev pub scope_in : List (Text × Scope) → Role → Option Scope
scope_in fs role.Begin = None
scope_in fs role.End = None
scope_in fs role.Rule = None
scope_in fs (role.Function f ps) = lookup (bytes_eq f.text) fs

abbrev pub scope_of : Numbers → Role → Option Scope
scope_of t r = scope_in t.functions r

-- the number of what a text is in an item of this role
abbrev pub number_in : Numbers → Role → Text → Option ℕ
number_in t role.Begin x = number t (global x)
number_in t role.End x = number t (global x)
number_in t role.Rule x = number t (global x)
number_in t (role.Function f ps) x = option_or (number t (parameter f.text x)) (number t (global x))

-- ---- functions

abbrev pub no_parameters : Scope
no_parameters = record { positions = []; numbers = [] }

abbrev pub with_parameter : Text → ℕ → Scope → Scope
with_parameter x n s = record { positions = with_text x (length s.numbers) s.positions; numbers = s.numbers ++ n ∷ [] }

abbrev pub scope : ℕ → Scope → List Name → Scope
scope n s [] = s
scope n s (q ∷ qs) = scope (n + 1) (with_parameter q.text n s) qs

abbrev pub nothing : Numbers
nothing = record { functions = []; globals = []; count = 0 }

abbrev pub counted_by : ℕ → Numbers → Numbers
counted_by n t = record { functions = t.functions; globals = t.globals; count = t.count + n }

abbrev pub with_function : Role → Numbers → Numbers
with_function role.Begin t = t
with_function role.End t = t
with_function role.Rule t = t
with_function (role.Function f ps) t =
    record {
      functions = with_text f.text (scope t.count no_parameters ps) t.functions;
      globals = t.globals;
      count =
          t.count + length ps;
    }

abbrev pub with_functions : List Section → Numbers → Numbers
with_functions [] t = t
with_functions (p ∷ ps) t = with_functions ps (with_function p.role t)

-- ---- other names

-- the functions of a script, and its variables so far
abbrev pub beside : List (Text × Scope) → Globals → Numbers
beside functions g = record { functions = functions; globals = g.numbers; count = g.count }

abbrev pub with_global : Text → Numbers → Numbers
with_global x t = record { functions = t.functions; globals = with_text x t.count t.globals; count = t.count + 1 }

abbrev pub unless_numbered : Option ℕ → Text → Numbers → Numbers
unless_numbered None x t = with_global x t
unless_numbered (Some n) x t = t

abbrev pub with_name : Role → Text → Numbers → Numbers
with_name r x t = unless_numbered (number_in t r x) x t

abbrev pub with_names : Role → List Text → Numbers → Numbers
with_names r [] t = t
with_names r (x ∷ xs) t = with_names r xs (with_name r x t)

abbrev pub with_own : List Text → Numbers → Numbers
with_own xs t = with_names role.Begin xs t

abbrev pub with_argument : Role → Option Name → Numbers → Numbers
with_argument r None t = t
with_argument r (Some n) t = with_name r n.text t

abbrev pub with_arguments : Role → List (Option Name) → Numbers → Numbers
with_arguments r [] t = t
with_arguments r (n ∷ ns) t = with_arguments r ns (with_argument r n t)

abbrev pub with_mention : Role → Mention → Numbers → Numbers
with_mention r (Scalar n) t = with_name r n.text t
with_mention r (Array n) t = with_name r n.text t
with_mention r (Measured n) t = with_name r n.text t
with_mention r (Call f args) t = with_arguments r args t
with_mention r m t = t

abbrev pub with_mentions : Role → List Mention → Numbers → Numbers
with_mentions r [] t = t
with_mentions r (m ∷ ms) t = with_mentions r ms (with_mention r m t)

abbrev pub with_parts : List Section → Numbers → Numbers
with_parts [] t = t
with_parts (p ∷ ps) t = with_parts ps (with_mentions p.role p.mentions t)

-- those that awk sets, and then those that the items name
abbrev pub with_globals : List Section → Numbers → Numbers
with_globals parts t = with_parts parts (with_own arrays (with_own scalars t))

abbrev pub numbers : List Section → Numbers
numbers parts = with_globals parts (with_functions parts nothing)
