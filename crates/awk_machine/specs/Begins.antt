-- How a run begins (POSIX.1-2017 XCU awk, "OPTIONS", "OPERANDS", "Variables and Special Variables").
use Rattle.std.specs.Prelude.{ℕ, ◌+◌, ◌&&◌, not, Bool, false, if◌then◌else◌, negsuc, List, [], ◌∷◌, ◌++◌, map, codes}
use Rattle.std.specs.Prelude.{Option, Some, None, unwrap_or}
use Rattle.std.specs.Fmt.{decimal}
use Rattle.std.specs.List.{filter, list_any}
use Rattle.std.specs.Map.{lookup}
use Rattle.std.specs.Str.{bytes_eq}
use Rattle.awk_numbers.specs.Random.{first_random}
use Rattle.awk_text.specs.declared.value.Value.{Value}
use Rattle.awk_text.specs.declared.value.Value.TheVariants as v
use Rattle.awk_text.specs.Escapes.{unescaped}
use Rattle.awk_fields.specs.Rows.{known}
use Rattle.awk_program.specs.Slots.{Text}
use Rattle.awk_program.specs.Program.{Program, global}
use Rattle.awk_program.specs.declared.program.GlobalName.{GlobalName}
use Rattle.awk_machine.specs.Operators.{of_count}
use Rattle.awk_machine.specs.Pieces.{nowhere, Piece, Do, Target, Variable, Element, Set, Environ, Enter}
use Rattle.awk_machine.specs.State.{Array, State, Course, Given, Beginning, Ruling, Ending}

-- ---- the variables and the arrays of the script

-- those that awk sets
abbrev pub first_values : List (Text × Value)
first_values =
    (codes "CONVFMT", v.Text (codes "%.6g")) ∷ (codes "FILENAME", v.Input []) ∷ (codes "FNR", of_count 0)
    ∷ (codes "FS", v.Text (codes " "))
    ∷ (codes "NR", of_count 0) ∷ (codes "OFMT", v.Text (codes "%.6g")) ∷ (codes "OFS", v.Text (codes " "))
    ∷ (codes "ORS", v.Text (10 ∷ []))
    ∷ (codes "RLENGTH", v.Num (negsuc 0)) ∷ (codes "RS", v.Text (10 ∷ [])) ∷ (codes "RSTART", of_count 0)
    ∷ (codes "SUBSEP", v.Text (28 ∷ [])) ∷ []

abbrev pub first_value : Text → Value
first_value name = unwrap_or (lookup (bytes_eq name) first_values) v.Unset

abbrev pub is_variable : Text → GlobalName → Bool
is_variable name x = bytes_eq name x.text && not x.is_array

abbrev pub is_array : Text → GlobalName → Bool
is_array name x = bytes_eq name x.text && x.is_array

abbrev pub values_at_start : Program → Text → Option Value
values_at_start program name = if list_any (is_variable name) program.variables then Some (first_value name) else None

abbrev pub arrays_at_start : Program → Text → Option Array
arrays_at_start program name = if list_any (is_array name) program.variables then Some [] else None

abbrev pub nothing : Course
nothing = record { events = []; used = 0 }

abbrev pub first_state : Given → State
first_state g = record {
  numbers = g.numbers;
  random = first_random g.seed;
  values = values_at_start g.program;
  arrays = arrays_at_start g.program;
  locals = [];
  depth = 0;
  made = [];
  row = record { whole = []; fields = known [] };
  phase = Beginning;
  on = λ n. false;
  main = record { position = 1; current = None; named = false; ended = false; failed = false };
  taken = λ key. 0;
  status = None;
  course = nothing;
}

-- ---- what is done first: the operands, the host's own assignments, and the environment

abbrev pub set_at_start : Target → Value → Piece
set_at_start to x = Do (Set to nowhere x)

abbrev pub operands : ℕ → List Text → List Piece
operands n [] = set_at_start (Variable (global (codes "ARGC"))) (of_count n) ∷ []
operands n (x ∷ xs) =
    set_at_start (Element (global (codes "ARGV")) (decimal n) nowhere) (v.Input x) ∷ operands (n + 1) xs

abbrev pub separators : Option Text → List Piece
separators None = []
separators (Some text) = set_at_start (Variable (global (codes "FS"))) (v.Input (unescaped text)) ∷ []

abbrev pub assigns : Given → List Piece
assigns g =
    map (λ a. set_at_start (Variable (global a.0)) (v.Input (unescaped a.1))) (filter (λ a. g.can_assign a.0) g.assigns)

abbrev pub first_pieces : Given → List Piece
first_pieces g =
    operands 0 (codes "awk" ∷ g.operands) ++ separators g.separator ++ assigns g
    ++ Do (Environ (if g.names_environ then g.environment else [])) ∷ Do (Enter Beginning) ∷ Do (Enter Ruling)
    ∷ Do (Enter Ending) ∷ []
