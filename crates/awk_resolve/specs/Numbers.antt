-- The numbers that the names of a script have.
use Rattle.std.specs.Prelude.{ℕ, Bool, List, slice_get, Option, Some, None, is_some}
use Rattle.std.specs.Map.{lookup}
use Rattle.std.specs.Str.{bytes_eq}
use Rattle.awk_tree.specs.Tree.{Text}
use Rattle.awk_resolve.specs.Kinds.{Named, global, parameter}
use Rattle.awk_resolve.specs.declared.numbers.Scope.{Scope}
use Rattle.awk_resolve.specs.declared.numbers.Numbers.{Numbers}

abbrev pub at_position : List ℕ → Option ℕ → Option ℕ
at_position ns None = None
at_position ns (Some i) = slice_get ns i

abbrev pub in_scope : Scope → Text → Option ℕ
in_scope s x = at_position s.numbers (lookup (bytes_eq x) s.positions)

abbrev pub in_perhaps : Option Scope → Text → Option ℕ
in_perhaps None x = None
in_perhaps (Some s) x = in_scope s x

abbrev pub number : Numbers → Named → Option ℕ
number t (global x) = lookup (bytes_eq x) t.globals
number t (parameter f x) = in_perhaps (lookup (bytes_eq f) t.functions) x

abbrev pub is_function : Numbers → Text → Bool
is_function t x = is_some (lookup (bytes_eq x) t.functions)
