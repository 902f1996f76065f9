-- Calls of a script's functions (POSIX.1-2017 XCU awk, "User-Defined Functions"): values are handed as they are, arrays
-- by reference; a parameter without an argument is unset, or a new array.
use Rattle.std.specs.Prelude.{ℕ, ◌+◌, ◌-◌, nat_lt, Bool, true, false, if◌then◌else◌, List, [], ◌∷◌, ◌++◌, length}
use Rattle.std.specs.Prelude.{reverse, take, drop, slice_get, slice_index_or, Option, Some, None}
use Rattle.awk_text.specs.declared.place.Place.{Place}
use Rattle.awk_text.specs.declared.value.Value.{Value}
use Rattle.awk_text.specs.declared.value.Value.TheVariants as v
use Rattle.awk_text.specs.declared.fault.Fault.TheVariants.{CallDepth}
use Rattle.awk_program.specs.Program as p
use Rattle.awk_program.specs.Program.{Expression, Arguments, Program, Function}
use Rattle.awk_machine.specs.Builtins.{first}
use Rattle.awk_machine.specs.Forms.{value}
use Rattle.awk_machine.specs.Pieces.{Value_of, Leave, At, Do, Each, Step, Call, Then, Goes, give, fails}
use Rattle.awk_machine.specs.State.{Array, State, Given, Frame, Bound, Scalar, Handed, Made}
use Rattle.awk_machine.specs.Variables.{reference}

abbrev pub most_depth : ℕ
most_depth = 200

-- the function with this number
abbrev pub function : Program → ℕ → Function
function program n = slice_index_or program.functions n (record { name = []; parameters = []; body = [] })

-- ---- arguments, from left to right

pub data Argument : Type 0 where
  by_value : Expression → Argument
  by_name : p.Variable → Argument
  by_nothing : Argument

abbrev pub arguments : Arguments → List Argument
arguments p.no_arguments = []
arguments (p.by_value x xs) = by_value x ∷ arguments xs
arguments (p.by_name a xs) = by_name a ∷ arguments xs
arguments (p.by_nothing xs) = by_nothing ∷ arguments xs

-- a value is evaluated; once there are all, a step is taken for the call
abbrev pub next_argument : Place → ℕ → Arguments → Option Argument → List Value → Then
next_argument place f xs (Some (by_value x)) vs k s = Goes (value x ∷ At (Value_of (p.call place f xs)) vs ∷ k) s
next_argument place f xs (Some (by_name a)) vs k s = Goes (At (Value_of (p.call place f xs)) (v.Unset ∷ vs) ∷ k) s
next_argument place f xs (Some by_nothing) vs k s = Goes (At (Value_of (p.call place f xs)) (v.Unset ∷ vs) ∷ k) s
next_argument place f xs None vs k s = Goes (Do Step ∷ Do (Call place f xs (reverse vs)) ∷ k) s

abbrev pub call : Place → ℕ → Arguments → List Value → Then
call place f xs vs k s = next_argument place f xs (slice_get (arguments xs) (length vs)) vs k s

-- ---- what the parameters hold

abbrev pub handed : State → Argument → Value → Bound
handed s (by_value x) v = Scalar v
handed s (by_name a) v = Handed (reference s a)
handed s by_nothing v = Scalar v

abbrev pub all_handed : State → List Argument → List Value → Frame
all_handed s [] vs = []
all_handed s (x ∷ xs) [] = []
all_handed s (x ∷ xs) (v ∷ vs) = handed s x v ∷ all_handed s xs vs

-- the parameters without an argument: each array is a new one, from this number on
abbrev pub missing : ℕ → List Bool → Frame
missing n [] = []
missing n (true ∷ are_arrays) = Handed (Made n) ∷ missing (n + 1) are_arrays
missing n (false ∷ are_arrays) = Scalar v.Unset ∷ missing n are_arrays

abbrev pub new_arrays : List Bool → List Array
new_arrays [] = []
new_arrays (true ∷ are_arrays) = [] ∷ new_arrays are_arrays
new_arrays (false ∷ are_arrays) = new_arrays are_arrays

-- ---- the body, up to its end or a `return`

abbrev pub entered : Function → Frame → List Bool → Then
entered f given others k s =
    Goes (Do (Each f.body) ∷ At (Leave s.locals (length s.made)) [] ∷ k)
    (record s {
      locals = given ++ missing (length s.made) others;
      depth = s.depth + 1;
      made = s.made
          ++ new_arrays others;
    })

abbrev pub enter : Given → Place → ℕ → Arguments → List Value → Then
enter g place n xs vs k s =
    if nat_lt s.depth most_depth then
    entered (function g.program n) (all_handed s (arguments xs) vs) (drop (length vs) (function g.program n).parameters)
    k s
    else fails CallDepth place s

-- a call ends: the caller's parameters are back, with the value that was returned or none
abbrev pub leave : Frame → ℕ → List Value → Then
leave locals n vs k s =
    Goes (give (first vs) k) (record s { locals = locals; depth = s.depth - 1; made = take n s.made })
