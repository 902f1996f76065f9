-- A record that was read is set and counted (POSIX.1-2017 XCU awk, "Input/Output and General Functions", getline).
use Rattle.std.specs.Prelude.{◌≡◌, Bool, true, false, List, [], ◌∷◌, Result, Ok, Err}
use Rattle.awk_text.specs.declared.place.Place.{Place}
use Rattle.awk_text.specs.declared.value.Value.{Value}
use Rattle.awk_text.specs.declared.value.Value.TheVariants as v
use Rattle.awk_program.specs.Program as p
use Rattle.awk_program.specs.Program.{Expression, Pipes}
use Rattle.awk_program.specs.Slots.{Text, name_of}
use Rattle.awk_program.specs.declared.variables.Own.TheVariants as own
use Rattle.awk_machine.specs.Getline.{got}
use Rattle.awk_machine.specs.Moves.{move}
use Rattle.awk_machine.specs.Pieces.{Piece, Target, At, Pipes_of, Value_of}
use Rattle.awk_machine.specs.State.{State, Given}
use Rattle.awk_streams.specs.Tasks.{goes_on}
use Rattle.awk_streams.specs.declared.halt.Halt.{Halt}
use Rattle.awk_input.specs.declared.counted.Counted.{Counted}
use Rattle.awk_input.specs.declared.counted.Counted.TheVariants as counted
use Rattle.awk_store.specs.Acts.{Acts, Passes}
use Rattle.awk_store.specs.Wholes.{Whole}

abbrev pub names_of : Counted → List Text
names_of counted.Nothing = []
names_of counted.Nr = name_of own.Nr ∷ []
names_of counted.NrAndFnr = name_of own.Nr ∷ name_of own.Fnr ∷ []

abbrev pub both : Counted
both = counted.NrAndFnr

abbrev pub is_record : Value → Bool
is_record (v.Input text) = true
is_record other = false

-- the piece p has a record for this target, or what came in its place; behind it `to` is left to be done
abbrev pub IsGot : Given → Piece → Place → Target → List Text → Value → (List Piece → List Piece) → Type 0
IsGot g p place target names record_ to =
    (k : List Piece) (s : State) → move g (p ∷ k) s ≡ got place target names record_ (to k) s

-- the counters have grown, behind whatever was done; or the whole is halted
abbrev pub Counts : Given → Piece → Whole → (List Piece → List Piece) → Result (Unit {0}) Halt → Whole → Type 0
Counts g p old to (Ok u) new = Passes g p old to new
Counts g p old to (Err h) new = Acts g p (goes_on {A = Unit {0}}) old (Err h) new

-- what is left of `getline target < file` once a record was read, or something came in its place: all its values are
-- there
abbrev pub read_of : Place → p.Reference → Expression → Value → Value → Value → List Piece → List Piece
read_of place r x name target answer k = At (Value_of (p.getline_file place r x)) (answer ∷ name ∷ target ∷ []) ∷ k

-- the same of `command | getline target`, the first of its pipes
abbrev pub piped_of : Place → p.Reference → Pipes → Value → Value → Value → List Piece → List Piece
piped_of place r xs command target answer k = At (Pipes_of (p.piped place r xs)) (answer ∷ target ∷ command ∷ []) ∷ k
