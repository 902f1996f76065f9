-- The statements that are a word alone (POSIX.1-2017 XCU awk, "Actions").
use Rattle.std.specs.Prelude.{codes, Option, Some, None}
use Rattle.awk_text.specs.declared.place.Place.{Place}
use Rattle.awk_program.specs.declared.jumps.Jump.{Jump}
use Rattle.awk_program.specs.declared.jumps.Jump.TheVariants as j
use Rattle.awk_program.specs.Slots.{Text}

abbrev pub word_of : Jump → Text
word_of j.Break = codes "break"
word_of j.Continue = codes "continue"
word_of (j.Next place) = codes "next"
word_of (j.NextFile place) = codes "nextfile"

-- the place that a fault names
abbrev pub place_of : Jump → Option Place
place_of j.Break = None
place_of j.Continue = None
place_of (j.Next place) = Some place
place_of (j.NextFile place) = Some place
