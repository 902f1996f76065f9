-- What is still to be done, and what a move leads to.
--
-- An example: how `1 + x` comes to its value, where x holds 2. What is still to be done is a list of pieces, the first
-- one first; here a piece is its part with the values that came to it, the newest first. Each line is one move behind
-- the one above it.
--
--   Value_of (1 + x) []
--   Value_of (1) []        then  Terms_of (+ x) []           a chain begins with its first operand
--   Terms_of (+ x) [1]                                       a value goes to the part that waits for it (`give`)
--   Value_of (x) []        then  Terms_of (+ x) [1]
--   Target_of (x) []       then  Value_of (x) []      then  Terms_of (+ x) [1]
--   Value_of (x) [unset]   then  Terms_of (+ x) [1]          a variable has no subscript
--   Do Get (x)             then  Terms_of (+ x) [1]
--   Terms_of (+ x) [2, 1]
--   Terms_of () [3]                                          or the fault F1 at the place of `+`
--
-- and the next move gives 3 to whatever waits for it.
use Rattle.std.specs.Prelude.{Option, ℕ, Bool, List, [], ◌∷◌, Result, Ok, Err}
use Rattle.awk_text.specs.declared.value.Value.{Value}
use Rattle.awk_text.specs.declared.place.Place.{Place}
use Rattle.awk_text.specs.declared.fault.Fault.{Fault}
use Rattle.awk_fields.specs.Rows as row
use Rattle.awk_fields.specs.Separators.{Separator}
use Rattle.box_world.specs.declared.ask.Mode.{Mode}
use Rattle.box_world.specs.declared.ask.Reply.{Reply}
use Rattle.box_world.specs.Events.{Class, Key, Want}
use Rattle.awk_program.specs.Slots.{Text}
use Rattle.awk_program.specs.Program as p
use Rattle.awk_program.specs.Program.{Expression, Expressions, Ere, Terms, Joins, Pipes, Arguments, Statement, Rule}
use Rattle.awk_machine.specs.State.{Frame, State, Phase}
use Rattle.awk_machine.specs.Questions.{Question, Answer}

-- the place of what stands nowhere in the script
abbrev pub nowhere : Place
nowhere = record { line = 0; column = 0 }

-- how a run ends
pub data Outcome : Type 0 where
  Status : ℕ → Outcome
  Faulted : Fault → Place → Outcome
  Cut : Outcome

-- a loop: the test before a turn, the body, and what is evaluated behind a turn
pub record Loop : Type 0 where
  pub test : Option Expression
  pub body : Statement
  pub step : Option Expression

-- a part of the program
pub data Part : Type 0 where
  -- an expression's value; of what is read or set the subscript as one text, or the number of the field; the text of an
  -- ERE
  Value_of : Expression → Part
  Target_of : p.Reference → Part
  Pattern_of : Ere → Part
  -- the rest of a chain; the value so far is the part's newest one
  Terms_of : Terms → Part
  Texts_of : Joins → Part
  Ands_of : Expressions → Part
  Ors_of : Expressions → Part
  Members_of : List p.Variable → Part
  Pipes_of : Pipes → Part
  -- a statement; a loop's test, and what stands behind one turn of its body
  Doing : Statement → Part
  Test : Loop → Part
  Turn : Loop → Part
  -- the end of a call, with the caller's parameters and the count of arrays that there were
  Leave : Frame → ℕ → Part
  -- the records of the main input, and whether the rule at this place is done for one
  Records : Part
  Choosing : ℕ → Rule → Part

-- what can be set, with its subscript or its number, and the place of an array's name
pub data Target : Type 0 where
  Variable : p.Variable → Target
  Element : p.Variable → Text → Place → Target
  Field : ℕ → Target

-- what is done with values that are there
pub data Task : Type 0 where
  Give : Value → Task
  Get : Target → Task
  Set : Target → Place → Value → Task
  -- `$0` is set to a text; the record has these fields now
  Whole : Place → Text → Task
  Rebuild : Place → List row.Field → Task
  -- a text is an ERE; it matches somewhere; its first match; the matches are replaced in what the target holds
  Check : Place → Text → Task
  Match : (source text : Text) → Task
  Locate : (source text : Text) → Task
  Located : List (ℕ × ℕ) → Task
  Substitute : Place → Target → (source with_ old : Text) → Bool → Task
  Replace : Place → Target → (with_ old : Text) → List (ℕ × ℕ) → Task
  -- a text is split into an array
  Split : Place → p.Variable → Separator → Text → Task
  Fill : Place → p.Variable → List Text → Task
  -- a function is called with these values
  Call : Place → ℕ → Arguments → List Value → Task
  -- statements, and the turns of a `for (key in array)`
  Step : Task
  Start : Statement → Task
  Each : List Statement → Task
  Keys : Place → p.Variable → Statement → List Text → Task
  -- streams: an output is opened and written to; a record of an input is read, and opened before where it must be
  Open : Place → Mode → Class → Text → Task
  Put : Place → Key → Text → Task
  Read : Place → Key → Task
  Fetch : Place → Class → Text → Task
  Count : Place → Text → Task
  Close : Place → Text → Option Value → Task
  -- a command is run to its end
  Run : Place → Text → Task
  -- the next record of the main input; an operand; one that was opened; a message; the end of a stream of it
  Take : Task
  Operand : Task
  Look : Task
  Begun : Key → Text → Task
  Report : Text → Text → Task
  Forget : Key → Task
  Past : Key → Task
  -- the run's own: the environment, the rules for a record, and the end
  Environ : List Text → Task
  Enter : Phase → Task
  Rules : ℕ → List Rule → Task
  Finish : Task
  Closing : Outcome → Task

-- a piece: a part of the program, with the values that its own parts gave, the newest first; or a task
pub data Piece : Type 0 where
  At : Part → List Value → Piece
  Do : Task → Piece

-- what a move leads to: on, on with a step taken, to a request and then by its reply, to a question and then by its
-- answer, or to the end
pub data Next : Type 0 where
  Goes : List Piece → State → Next
  Steps : List Piece → State → Next
  Asks : Want → (Reply → List Piece) → State → Next
  Seeks : Question → (Answer → List Piece) → State → Next
  Over : Outcome → Next

-- what is done, before these pieces, in this state
abbrev pub Then : Type 0
Then = List Piece → State → Next

-- a value goes to the part that waits for it
abbrev pub give : Value → List Piece → List Piece
give v [] = []
give v (At part vs ∷ k) = At part (v ∷ vs) ∷ k
give v (Do task ∷ k) = Do task ∷ k

-- a run ends: what is left is to shut the streams
abbrev pub ends : Outcome → List Piece
ends outcome = Do (Closing outcome) ∷ []

abbrev pub fails : Fault → Place → State → Next
fails fault place s = Goes (ends (Faulted fault place)) s

-- on with what was made, or to its fault
abbrev pub granted : {A : Type 0} → Place → Result A Fault → (A → Then) → Then
granted place (Ok x) f k s = f x k s
granted place (Err fault) f k s = fails fault place s
