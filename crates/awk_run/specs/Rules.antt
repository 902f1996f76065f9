-- Rules for records (POSIX.1-2017 XCU awk, "Overall Program Structure", "Patterns").
use Rattle.std.specs.Prelude.{ℕ, Bool, true, false, List, [], ◌∷◌, Option, Some, None, Result, Ok, Err}
use Rattle.awk_machine.specs.Pieces.{Piece, At, Choosing}
use Rattle.awk_machine.specs.Rules.{action}
use Rattle.awk_program.specs.Program.{Rule, Statement, When}
use Rattle.awk_streams.specs.declared.halt.Halt.{Halt}
use Rattle.awk_streams.specs.declared.halt.Halt.TheVariants as halt

abbrev pub rule_of : When → List Statement → Rule
rule_of when statements = record { when = when; action = statements }

-- once a pattern of a range is met: its action is done, or not; or it has just begun, and its last pattern is met too
abbrev pub met : ℕ → Rule → Option Bool → List Piece → List Piece
met n x None k = At (Choosing n x) [] ∷ k
met n x (Some true) k = action x k
met n x (Some false) k = k

-- `next` comes back to the records
abbrev pub come_back : Result Bool Halt → Result Bool Halt
come_back (Ok b) = Ok b
come_back (Err halt.Next) = Ok true
come_back (Err other) = Err other
