-- How a place in a script is shown.
use Rattle.std.specs.Prelude.{ℕ, List, ◌++◌, codes}
use Rattle.std.specs.Fmt.{decimal}
use Rattle.awk_text.specs.declared.place.Place.{Place}

-- the line and the column
abbrev pub place_text : Place → List ℕ
place_text place = decimal place.line ++ codes ":" ++ decimal place.column
