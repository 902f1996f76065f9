-- What is left to be done once the text of a print or a printf is made.
use Rattle.std.specs.Prelude.{List, ◌∷◌}
use Rattle.awk_text.specs.declared.place.Place.{Place}
use Rattle.awk_text.specs.declared.value.Value.{Value}
use Rattle.awk_text.specs.Values.{text_of}
use Rattle.box_world.specs.Events.{Standard, Named}
use Rattle.awk_program.specs.Slots.{Text}
use Rattle.awk_program.specs.Program.{Expression}
use Rattle.awk_program.specs.declared.statements.Redirection.{Redirection}
use Rattle.awk_machine.specs.Pieces.{Piece, Do, Open, Put}
use Rattle.awk_machine.specs.Printing.{mode_of, class_of}

abbrev pub to_standard : Place → Text → List Piece → List Piece
to_standard place text k = Do (Put place (Standard 1) text) ∷ k

abbrev pub to_stream : Redirection Expression → Value → Text → List Piece → List Piece
to_stream r name text k = Do (Open r.place (mode_of r.how) (class_of r.how) (text_of name))
    ∷ Do (Put r.place (Named (class_of r.how) (text_of name)) text) ∷ k
