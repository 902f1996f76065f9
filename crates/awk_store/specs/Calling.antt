-- What is left to be done once a function is called: its body, and then the end of the call
-- (POSIX.1-2017 XCU awk, "User-Defined Functions").
use Rattle.std.specs.Prelude.{ℕ, List, [], ◌∷◌, map}
use Rattle.awk_machine.specs.Calls.{function}
use Rattle.awk_machine.specs.Pieces.{Piece, At, Do, Each, Leave}
use Rattle.awk_machine.specs.State.{Given}
use Rattle.awk_store.specs.States.{bound_of}
use Rattle.awk_store.specs.declared.frame.Caller.{Caller}
use Rattle.awk_store.specs.Wholes.{names_in}

-- the end of a call, with what its caller waits with
abbrev pub ending : Given → Caller → List Piece → List Piece
ending g caller k = At (Leave (map (bound_of (names_in g)) caller.frame.items) caller.made) [] ∷ k

abbrev pub begun : Given → ℕ → Caller → List Piece → List Piece
begun g n caller k = Do (Each (function g.program n).body) ∷ ending g caller k
