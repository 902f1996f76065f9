-- What match, sub and gsub make of the matches that were found (POSIX.1-2017 XCU awk, "String Functions").
use Rattle.std.specs.Prelude.{ℕ, ◌+◌, ◌-◌, ℤ, pos, negsuc, List, [], ◌∷◌, length, Option, Some, None, Result, Ok}
use Rattle.awk_text.specs.declared.fault.Fault.{Fault}
use Rattle.awk_format.specs.Directives.{◌>>=◌}
use Rattle.awk_lib.specs.Replacing.{replaced}
use Rattle.awk_program.specs.Slots.{Text}
use Rattle.awk_machine.specs.Operators.{limited}
use Rattle.awk_builtins.specs.declared.searches.Location.{Location}

-- the values of RSTART and RLENGTH, of the first match: 0 and -1 where there is none
abbrev pub location : List (ℕ × ℕ) → Location
location [] = record { start = pos 0; length = negsuc 0 }
location (m ∷ ms) = record { start = pos (m.0 + 1); length = pos (m.1 - m.0) }

-- the new text, with the count of the matches, where there are any
abbrev pub substituted : (new old : Text) → List (ℕ × ℕ) → Result (Option (Text × ℤ)) Fault
substituted new old [] = Ok None
substituted new old (m ∷ ms) = limited (replaced new old 0 (m ∷ ms)) >>= λ text. Ok (Some (text, pos (length (m ∷ ms))))
