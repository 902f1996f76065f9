-- Escapes in strings. POSIX.1-2017, XCU awk, table "Escape Sequences in awk", and the STRING token.
use Rattle.std.specs.Prelude.{ℕ, zero, suc, ◌+◌, ◌-◌, ◌*◌, ◌%◌, Bool, ◌&&◌, ◌==◌, nat_le, List, [], ◌∷◌, ◌++◌, length}
use Rattle.std.specs.Prelude.{take, Option, Some, None, if◌then◌else◌}
use Rattle.std.specs.List.{take_while, fold}

-- what an escape stands for, and how many bytes after its `\` belong to it
pub record Escape : Type 0 where
  pub text : List ℕ
  pub taken : ℕ

abbrev pub is_octal : ℕ → Bool
is_octal b = nat_le 48 b && nat_le b 55

-- one to three octal digits, as many as there are
abbrev pub octal_digits : List ℕ → List ℕ
octal_digits text = take_while is_octal (take 3 text)

abbrev pub octal_value : List ℕ → ℕ
octal_value digits = fold (λ n d. n * 8 + (d - 48)) 0 digits

-- the byte that a letter or a sign after `\` stands for: `\"`, `\/`, `\\`, `\a`, `\b`, `\f`, `\n`, `\r`, `\t`, `\v`
unfoldable pub escaped_byte : ℕ → Option ℕ
escaped_byte b =
    if b == 0x22 then Some 0x22 else (if b == 0x2F then Some 0x2F else (if b == 0x5C then Some 0x5C else (
    if b == 0x61 then Some 7 else (if b == 0x62 then Some 8 else (if b == 0x66 then Some 12 else (
    if b == 0x6E then Some 10 else (if b == 0x72 then Some 13 else (if b == 0x74 then Some 9 else (
    if b == 0x76 then Some 11 else None)))))))))

-- a byte that has no escape stays, with its `\`
unfoldable pub one_byte : ℕ → Option ℕ → Escape
one_byte b (Some byte) = record { text = byte ∷ []; taken = 1 }
one_byte b None = record { text = 0x5C ∷ b ∷ []; taken = 1 }

-- the escape whose `\` stands before this text: `\` and a newline is nothing, and a `\` at the end stays
unfoldable pub escape_of : List ℕ → Escape
escape_of [] = record { text = 0x5C ∷ []; taken = 0 }
escape_of (b ∷ bs) =
    if is_octal b then record
    { text = octal_value (octal_digits (b ∷ bs)) % 256 ∷ []; taken = length (octal_digits (b ∷ bs)) } else (
    if b == 10 then record { text = []; taken = 1 } else one_byte b (escaped_byte b))

-- the text with each escape as what it stands for, after the bytes that the escape before it has taken
abbrev pub unescaped_after : ℕ → List ℕ → List ℕ
unescaped_after taken [] = []
unescaped_after (suc taken) (b ∷ bs) = unescaped_after taken bs
unescaped_after zero (b ∷ bs) =
    if b == 0x5C then (escape_of bs).text ++ unescaped_after (escape_of bs).taken bs else b ∷ unescaped_after 0 bs

abbrev pub unescaped : List ℕ → List ℕ
unescaped text = unescaped_after 0 text
