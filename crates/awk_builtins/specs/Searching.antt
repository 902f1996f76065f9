-- What is left to be done once sub or gsub has made its text (POSIX.1-2017 XCU awk, "String Functions").
use Rattle.std.specs.Prelude.{ℤ, pos, List, ◌∷◌, Option, Some, None}
use Rattle.awk_text.specs.declared.place.Place.{Place}
use Rattle.awk_text.specs.declared.value.Value.TheVariants as v
use Rattle.awk_program.specs.Slots.{Text}
use Rattle.awk_machine.specs.Pieces.{Piece, Target, Do, Set, Give, give}

-- the target is set where something was replaced, and the count is given
abbrev pub then_set : Place → Target → Option (Text × ℤ) → List Piece → List Piece
then_set place to None k = give (v.Num (pos 0)) k
then_set place to (Some (text, count)) k = Do (Set to place (v.Text text)) ∷ Do (Give (v.Num count)) ∷ k
