-- What /proc/self/limits tells of the process's stack (proc(5)): a line `Max stack size`, and behind these words the
-- soft limit in bytes, or the word `unlimited`, and then the hard one.
use Rattle.std.specs.Prelude.{ℕ, Bool, false, ◌&&◌, ℤ, pos, int_lt, List, [], ◌∷◌, length, take, drop, codes, Option}
use Rattle.std.specs.Prelude.{None, Some, Result, Ok, Err, if◌then◌else◌}
use Rattle.std.specs.Str.{bytes_eq}
use Rattle.awk_text.specs.Arithmetic.{ranged}
use Rattle.awk_text.specs.Numerals.{number}
use Rattle.awk_text.specs.declared.fault.Fault.{Fault}

-- what stands behind these words, where a text begins with them
abbrev pub after : List ℕ → List ℕ → Option (List ℕ)
after words text = if bytes_eq (take (length words) text) words then Some (drop (length words) text) else None

abbrev pub or_else : Option (List ℕ) → Option (List ℕ) → Option (List ℕ)
or_else (Some rest) other = Some rest
or_else None other = other

-- what stands behind these words, at the first place where a text has them
abbrev pub behind : List ℕ → List ℕ → Option (List ℕ)
behind words [] = None
behind words (b ∷ bs) = or_else (after words (b ∷ bs)) (behind words bs)

-- a number of bytes that is smaller than 8 MiB; the word `unlimited` reads as 0
abbrev pub is_small : Result ℤ Fault → Bool
is_small (Ok size) = int_lt (pos 0) size && int_lt size (pos 8388608)
is_small (Err fault) = false

abbrev pub has_small : Option (List ℕ) → Bool
has_small None = false
has_small (Some rest) = is_small (ranged (number rest))

-- whether such a text tells of a stack that is smaller than 8 MiB
abbrev pub tells_of_small_stack : List ℕ → Bool
tells_of_small_stack text = has_small (behind (codes "Max stack size") text)
