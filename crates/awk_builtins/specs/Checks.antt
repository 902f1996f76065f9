-- What is left to be done once a constant was checked where it stands: its text is given.
use Rattle.std.specs.Prelude.{List}
use Rattle.awk_text.specs.declared.value.Value.TheVariants as v
use Rattle.awk_program.specs.Slots.{Text}
use Rattle.awk_machine.specs.Pieces.{Piece, give}

abbrev pub gives_text : {A : Type 0} → Text → A → List Piece → List Piece
gives_text source x k = give (v.Text source) k
