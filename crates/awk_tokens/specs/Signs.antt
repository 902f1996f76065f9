-- The signs of the language: the tokens of one and of two bytes in the grammar of POSIX.1-2017 XCU awk.
use Rattle.std.specs.Prelude.{ℕ, Bool, true, false, if◌then◌else◌, ◌==◌, List, [], ◌∷◌, ◌++◌, codes}
use Rattle.std.specs.List.{list_any}
use Rattle.std.specs.Str.{bytes_eq}
use Rattle.awk_tokens.specs.Bytes.{Text}

-- the signs of one byte; 10 is the newline
abbrev pub singles : Text
singles = 10 ∷ codes "{}()[];,+-*/%^!><|?:~$="

-- the signs of two bytes
abbrev pub doubles : List Text
doubles =
    codes "+=" ∷ codes "-=" ∷ codes "*=" ∷ codes "/=" ∷ codes "%=" ∷ codes "^=" ∷ codes "==" ∷ codes "<=" ∷ codes ">="
    ∷ codes "!=" ∷ codes "!~" ∷ codes "++"
    ∷ codes "--" ∷ codes "&&" ∷ codes "||" ∷ codes ">>" ∷ []

abbrev pub is_single : ℕ → Bool
is_single b = list_any (λ s. s == b) singles

abbrev pub is_double : ℕ → ℕ → Bool
is_double b next = list_any (λ s. bytes_eq s (b ∷ next ∷ [])) doubles

-- whether a text is a sign
abbrev pub is_sign : Text → Bool
is_sign [] = false
is_sign (b ∷ []) = is_single b
is_sign (b ∷ next ∷ []) = is_double b next
is_sign (b ∷ next ∷ third ∷ z) = false

-- how long the longest sign is that two bytes begin with, 0 where there is none
unfoldable pub sign_len : ℕ → ℕ → ℕ
sign_len b next = if is_double b next then 2 else (if is_single b then 1 else 0)
