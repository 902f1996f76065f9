-- The program that a script stands for (POSIX.1-2017 XCU awk, "Overall Program Structure").
use Rattle.std.specs.Prelude.{Bool, List, [], ◌∷◌, ◌++◌, map, position, false, None}
use Rattle.std.specs.Str.{bytes_eq}
use Rattle.awk_numbers.specs.declared.number.Numbers.{Numbers}
use Rattle.awk_tree.specs.Tree as t
use Rattle.awk_tree.specs.Tree.{Text, Entry, Condition}
use Rattle.awk_tree.specs.Terminals.{nowhere}
use Rattle.awk_resolve.specs.Kinds.{texts}
use Rattle.awk_resolve.specs.Tables.{Tables}
use Rattle.awk_program.specs.declared.program.GlobalName.{GlobalName}
use Rattle.awk_program.specs.Program as p
use Rattle.awk_program.specs.Program.{Statement, When, Rule, Function, Program}
use Rattle.awk_lowering.specs.Lowered.{lowered}
use Rattle.awk_lowering.specs.LoweredStatements.{statement}
use Rattle.awk_lowering.specs.Scopes.{Scope, arrays_by}

-- an item that is no function has no parameters
abbrev pub scope_with : Numbers → Tables → List Text → List Bool → Scope
scope_with numbers n ps are = record {
  numbers = numbers;
  parameters = ps;
  own_arrays = are;
  variables = n.variables;
  script_arrays = n.script_arrays;
  functions = n.functions;
  arrays = n.arrays;
}

abbrev pub outer : Numbers → Tables → Scope
outer numbers n = scope_with numbers n [] []

abbrev pub flags : Tables → Text → List Bool
flags n f = arrays_by n.arrays (position (bytes_eq f) n.functions)

abbrev pub body : Scope → List t.Statement → List Statement
body c xs = map (statement c) xs

-- a missing action is `print`, which stands nowhere in the script
abbrev pub printed : List Statement
printed = p.print nowhere [] None ∷ []

abbrev pub when_of : Scope → Condition → When
when_of c (t.single x) = p.holds (lowered c x)
when_of c (t.range x y) = p.range (lowered c x) (lowered c y)

abbrev pub rule_of : When → List Statement → Rule
rule_of when action = record { when = when; action = action }

abbrev pub function_of : Numbers → Tables → Text → List Text → List t.Statement → Function
function_of numbers n f ps xs = record {
  name = f;
  parameters = flags n f;
  body = body (scope_with numbers n ps (flags n f)) xs;
}

abbrev pub functions_of : Numbers → Tables → Entry → List Function
functions_of numbers n (t.function f ps xs) = function_of numbers n f.text (texts ps) xs ∷ []
functions_of numbers n x = []

abbrev pub begins_of : Numbers → Tables → Entry → List (List Statement)
begins_of numbers n (t.at_begin xs) = body (outer numbers n) xs ∷ []
begins_of numbers n x = []

abbrev pub ends_of : Numbers → Tables → Entry → List (List Statement)
ends_of numbers n (t.at_end xs) = body (outer numbers n) xs ∷ []
ends_of numbers n x = []

abbrev pub rules_of : Numbers → Tables → Entry → List Rule
rules_of numbers n (t.always xs) = rule_of p.always (body (outer numbers n) xs) ∷ []
rules_of numbers n (t.shown x) = rule_of (when_of (outer numbers n) x) printed ∷ []
rules_of numbers n (t.rule x xs) = rule_of (when_of (outer numbers n) x) (body (outer numbers n) xs) ∷ []
rules_of numbers n x = []

-- of each item in turn
abbrev pub each : {A : Type 0} → (Entry → List A) → List Entry → List A
each f [] = []
each f (x ∷ xs) = f x ++ each f xs

abbrev pub names : List Text → List Bool → List GlobalName
names [] are = []
names (x ∷ xs) [] = record { text = x; is_array = false } ∷ names xs []
names (x ∷ xs) (a ∷ are) = record { text = x; is_array = a } ∷ names xs are

abbrev pub program : Numbers → Tables → List Entry → Program
program numbers n items = record {
  variables = names n.variables n.script_arrays;
  functions = each (functions_of numbers n) items;
  begin = each (begins_of numbers n) items;
  rules = each (rules_of numbers n) items;
  end = each (ends_of numbers n) items;
}

-- ---- one item after the other

abbrev pub with_entry : Numbers → Tables → Entry → Program → Program
with_entry numbers n e before = record {
  variables = before.variables;
  functions = before.functions ++ functions_of numbers n e;
  begin = before.begin ++ begins_of numbers n e;
  rules = before.rules ++ rules_of numbers n e;
  end = before.end ++ ends_of numbers n e;
}

abbrev pub with_entries : Numbers → Tables → List Entry → Program → Program
with_entries numbers n [] before = before
with_entries numbers n (e ∷ es) before = with_entries numbers n es (with_entry numbers n e before)
