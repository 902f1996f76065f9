-- What the code of a run holds, and the state of the machine that it stands for.
use Rattle.std.specs.Prelude.{◌≡◌, ℕ, length, map}
use Rattle.awk_fields.specs.Rows.{IsKept}
use Rattle.awk_program.specs.View.{Names}
use Rattle.awk_machine.specs.State.{State, Course, Given}
use Rattle.awk_store.specs.Kept.{Kept}
use Rattle.awk_store.specs.States.{Hidden, Sound, state}
use Rattle.awk_streams.specs.Tables.{Table}
use Rattle.awk_streams.specs.Tasks.{IsTable}

-- the store, and the open streams
abbrev pub Whole : Type 0
Whole = Kept × Table

-- the names of the script's variables, by their slots
abbrev pub names_in : Given → Names
names_in g = map (λ n. n.text) g.program.variables

-- the machine's state, less the course
abbrev pub base : Given → Whole → Hidden → State
base g w hid = state (names_in g) w.0 hid

-- what of the three agrees: the streams are those of the events, the machine's record is the store's or the same before
-- its fields were known, and each variable has its cell
pub record Agreeing (g : Given) (w : Whole) (hid : Hidden) (c : Course) : Type 0 where
  pub tells : IsTable w.1 hid.taken c
  pub row : IsKept hid.row w.0.row
  pub cells : length w.0.cells ≡ length (names_in g)
  pub sound : Sound (names_in g)

-- the steps that were taken
abbrev pub used : Whole → ℕ
used w = w.0.used
