-- What a run is started with (POSIX.1-2017 XCU awk, "Options" and "Operands").
use Rattle.std.specs.Prelude.{ℕ, ◌+◌, ◌==◌, ◌++◌, Bool, true, false, ◌&&◌, List, [], ◌∷◌, Option, Some, None, codes}
use Rattle.std.specs.Prelude.{if◌then◌else◌, pos}
use Rattle.std.specs.Cmp.Lexicographic.{slice_cmp}
use Rattle.std.specs.Float.{binary64}
use Rattle.std.specs.Fmt.{decimal}
use Rattle.std.specs.Ordering.{nat_cmp}
use Rattle.std.specs.Result.{result_unwrap_or}
use Rattle.std.specs.declared.cmp.Ordering.{Ordering}
use Rattle.std.specs.declared.cmp.Ordering.TheVariants.{Less, Equal, Greater}
use lib.Ieee.{of_int}
use Rattle.awk_numbers.specs.Numbers.{settled}
use Rattle.awk_numbers.specs.declared.number.Number.{Number}
use Rattle.awk_numbers.specs.declared.number.Number.TheVariants.{Whole}
use Rattle.awk_numbers.specs.declared.number.Numbers.{Numbers}
use Rattle.awk_run.specs.declared.setup.SetupError.{SetupError}
use Rattle.awk_tokens.specs.Words.{is_name}

-- the operand words, the names of the environment, the pairs of `-v`, the text of `-F`, the numbers of the script, and
-- what `srand ( )` seeds by
pub record SetupParts : Type 0 where
  pub operands : List (List ℕ)
  pub names : List (List ℕ)
  pub assigns : List (List ℕ × List ℕ)
  pub separator : Option (List ℕ)
  pub numbers : Numbers
  pub random_seed : ℕ

-- the number that a seed of 64 bits is: the double nearest to it
abbrev pub number_of_seed : ℕ → Number
number_of_seed n = result_unwrap_or (settled (of_int binary64 (pos n))) (Whole (pos 0))

-- the number of the first pair whose name is not spelled as one; they are numbered from n
abbrev pub first_unspelled : ℕ → List (List ℕ × List ℕ) → Option ℕ
first_unspelled n [] = None
first_unspelled n (pair ∷ pairs) = if is_name pair.0 then first_unspelled (n + 1) pairs else Some n

abbrev pub is_less : Ordering → Bool
is_less Less = true
is_less Equal = false
is_less Greater = false

-- each text stands before the next, byte by byte
abbrev pub ascends : List (List ℕ) → Bool
ascends [] = true
ascends (x ∷ []) = true
ascends (x ∷ y ∷ rest) = is_less (slice_cmp nat_cmp x y) && ascends (y ∷ rest)

-- the pair of `-v` that words are refused for, where it is one
abbrev pub pair_text : ℕ → List ℕ
pair_text pair = if pair == 0 then [] else codes "assignment " ++ decimal pair ++ codes " "

-- how a refusal of the words is shown
abbrev pub setup_error_text : SetupError → List ℕ
setup_error_text e = pair_text e.pair ++ codes "U" ++ decimal e.code
