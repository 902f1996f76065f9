-- What is left to be done for the rule of a range (POSIX.1-2017 XCU awk, "Patterns").
use Rattle.std.specs.Prelude.{ℕ, Bool, true, false, List, [], ◌∷◌}
use Rattle.awk_machine.specs.Pieces.{Piece, At, Choosing}
use Rattle.awk_machine.specs.Rules.{action}
use Rattle.awk_program.specs.Program.{Rule}

-- where it is on now, its last pattern is met too
abbrev pub turned_on : ℕ → Rule → Bool → List Piece → List Piece
turned_on n x true k = At (Choosing n x) [] ∷ k
turned_on n x false k = k

abbrev pub acting : Rule → Unit {0} → List Piece → List Piece
acting x u k = action x k
