-- The built-in functions on texts (POSIX.1-2017 XCU awk, "String Functions"). Bytes are characters,
-- places count from 1, and numbers are whole.
use Rattle.std.specs.Prelude.{ℕ, zero, suc, ◌+◌, nat_eq, Bool, true, false, if◌then◌else◌, ℤ, pos, negsuc, ◌+ℤ◌, List}
use Rattle.std.specs.Prelude.{[], ◌∷◌, take, drop, map, Option, Some, None}
use Rattle.std.specs.Char.{to_ascii_lowercase, to_ascii_uppercase}
use Rattle.std.specs.List.{starts_with}

-- ---- index

-- the first place where the part begins in a text that itself begins at this place; 0 where there is none
abbrev pub place_from : ℕ → List ℕ → List ℕ → ℕ
place_from here [] part = 0
place_from here (b ∷ text) part = if starts_with nat_eq (b ∷ text) part then here else place_from (here + 1) text part

-- the first place of the part in the text; an empty part has none
abbrev pub index : List ℕ → List ℕ → ℕ
index text [] = 0
index text (b ∷ part) = place_from 1 text (b ∷ part)

-- ---- substr

-- how many places are below this one
abbrev pub below : ℤ → ℕ
below (pos zero) = 0
below (pos (suc n)) = n
below (negsuc n) = 0

-- the bytes at the places from `from` on, and where there is a count below `from + count`
abbrev pub substr : List ℕ → ℤ → Option ℤ → List ℕ
substr text from None = drop (below from) text
substr text from (Some count) = drop (below from) (take (below (from +ℤ count)) text)

-- ---- tolower and toupper

-- each letter of ASCII in upper case, or in lower case
abbrev pub to_case : Bool → List ℕ → List ℕ
to_case true text = map to_ascii_uppercase text
to_case false text = map to_ascii_lowercase text
