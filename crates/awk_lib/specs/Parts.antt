-- The array that split makes (POSIX.1-2017 XCU awk, "String Functions").
use Rattle.std.specs.Prelude.{ℕ, ◌+◌, List, [], ◌∷◌}
use Rattle.std.specs.Fmt.{decimal}
use Rattle.awk_text.specs.declared.value.Value.{Value}
use Rattle.awk_text.specs.declared.value.Value.TheVariants as v
use Rattle.awk_lib.specs.Arrays.{Array}

-- the texts under the keys n, n + 1 and so on, as values from outside
abbrev pub texts_from : ℕ → List (List ℕ) → Array Value
texts_from n [] = []
texts_from n (x ∷ xs) = (decimal n, v.Input x) ∷ texts_from (n + 1) xs
