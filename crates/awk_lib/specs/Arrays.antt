-- Arrays: lists of pairs of a key and a value, no two with one key, in the order in which the keys were added
-- (POSIX.1-2017 XCU awk, "Expressions in awk": subscripts are texts; the order of `for (k in a)` is this one).
use Rattle.std.specs.Prelude.{ℕ, nat_lt, ◌||◌, not, Bool, if◌then◌else◌, List, [], ◌∷◌, ◌++◌, length, map, filter}
use Rattle.std.specs.Prelude.{Option, is_some, Result, Ok, Err}
use Rattle.std.specs.Map.{lookup}
use Rattle.std.specs.Str.{bytes_eq}
use Rattle.awk_text.specs.declared.fault.Fault.{Fault}
use Rattle.awk_text.specs.declared.fault.Fault.TheVariants.{TooManyElements}

abbrev pub Array : Type 0 → Type 0
Array V = List (List ℕ × V)

-- the most elements of an array
abbrev pub most_elements : ℕ
most_elements = 1000000

module _ {V : Type 0} where
  -- the value of the key
  abbrev pub element : Array V → List ℕ → Option V
  element array key = lookup (bytes_eq key) array

  abbrev pub has : Array V → List ℕ → Bool
  has array key = is_some (element array key)

  -- the key has the value: in its place where it is there, and else last
  abbrev pub with_element : Array V → List ℕ → V → Array V
  with_element array key value =
      if has array key then map (λ p. if bytes_eq key p.0 then (p.0, value) else p) array
      else array ++ (key, value) ∷ []

  -- the same, where there is room: F10 exactly where a new key is one too many
  abbrev pub put : Array V → List ℕ → V → Result (Array V) Fault
  put array key value =
      if has array key || nat_lt (length array) most_elements then Ok (with_element array key value)
      else Err TooManyElements

  -- the pairs of all other keys
  abbrev pub without : Array V → List ℕ → Array V
  without array key = filter (λ p. not (bytes_eq key p.0)) array

  abbrev pub keys : Array V → List (List ℕ)
  keys array = map (λ p. p.0) array
