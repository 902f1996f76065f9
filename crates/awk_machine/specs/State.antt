-- What plain awk holds while a script runs (POSIX.1-2017 XCU awk, "Variables and Special Variables", "Expressions in
-- awk", "User-Defined Functions").
use Rattle.std.specs.Prelude.{ℕ, Bool, List, Option}
use Rattle.awk_numbers.specs.declared.number.Number.{Number}
use Rattle.awk_numbers.specs.declared.number.Numbers.{Numbers}
use Rattle.awk_numbers.specs.declared.random.Random.{Random}
use Rattle.awk_text.specs.declared.value.Value.{Value}
use Rattle.awk_fields.specs.Rows.{Row}
use Rattle.box_world.specs.Events.{Event, Key}
use Rattle.awk_program.specs.Slots.{Text}
use Rattle.awk_program.specs.Program.{Program}
use Rattle.awk_lib.specs.Arrays as list

-- the elements of an array, in the order in which their keys were added
abbrev pub Array : Type 0
Array = list.Array Value

-- which array is meant: one of the whole script, or one that a call made for a parameter without an argument
pub data Reference : Type 0 where
  Shared : Text → Reference
  Made : ℕ → Reference

-- what a parameter holds: a value of its own, or the array that it was handed
pub data Bound : Type 0 where
  Scalar : Value → Bound
  Handed : Reference → Bound

-- what the parameters of a call hold, in their order
abbrev pub Frame : Type 0
Frame = List Bound

pub data Phase : Type 0 where
  Beginning : Phase
  Ruling : Phase
  Ending : Phase

-- how far the main input is read
pub record Main : Type 0 where
  -- the place in ARGV of the next operand
  pub position : ℕ
  -- the stream that is read now
  pub current : Option Key
  -- whether an operand named a file or standard input
  pub named : Bool
  -- whether it has ended for good
  pub ended : Bool
  -- whether an operand's file could not be opened or read
  pub failed : Bool

-- what happened so far: moves read it, and do not change it
pub record Course : Type 0 where
  -- what was asked and answered, the newest first
  pub events : List Event
  -- the steps that were taken
  pub used : ℕ

pub record State : Type 0 where
  -- which numbers the script has
  pub numbers : Numbers
  -- the sequence that rand draws from
  pub random : Random
  -- the variables and the arrays of the whole script by their names; there are no others
  pub values : Text → Option Value
  pub arrays : Text → Option Array
  -- the parameters of the present call, how deep it is, and the arrays that calls have made
  pub locals : Frame
  pub depth : ℕ
  pub made : List Array
  -- `$0` and its fields, of which NF is the count
  pub row : Row
  pub phase : Phase
  -- whether the range of a rule is on, by its place among the rules
  pub on : ℕ → Bool
  pub main : Main
  -- how many bytes of a stream were taken as records since it was opened
  pub taken : Key → ℕ
  -- the status that an `exit` gave
  pub status : Option ℕ
  pub course : Course

-- what a run is given, and keeps
pub record Given : Type 0 where
  pub program : Program
  -- which numbers the script has
  pub numbers : Numbers
  -- what `srand ( )` seeds by
  pub seed : Number
  -- whether an operand or the host may set a variable of this name
  pub can_assign : Text → Bool
  -- whether the script names ENVIRON
  pub names_environ : Bool
  pub operands : List Text
  -- the names in the environment
  pub environment : List Text
  -- the host's own assignments, and its separator of fields
  pub assigns : List (Text × Text)
  pub separator : Option Text
  -- the most steps
  pub bound : ℕ
