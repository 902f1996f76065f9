-- Escapes: what may follow a `\` in a pattern (POSIX.1-2017 XCU awk, "Escape Sequences in awk").
use Rattle.std.specs.Prelude.{ℕ, zero, suc, ◌+◌, ◌-◌, ◌*◌, ◌%◌, Bool, ◌&&◌, ◌==◌, nat_le, if◌then◌else◌, List, [], ◌∷◌}
use Rattle.std.specs.Prelude.{Option, Some, None}

abbrev pub is_octal : ℕ → Bool
is_octal c = nat_le 48 c && nat_le c 55

-- the value after at most so many more octal digits, modulo 256, and what follows them
abbrev pub octal : ℕ → ℕ → List ℕ → ℕ × List ℕ
octal zero value s = (value % 256, s)
octal (suc n) value [] = (value % 256, [])
octal (suc n) value (c ∷ s) = if is_octal c then octal n (8 * value + (c - 48)) s else (value % 256, c ∷ s)

-- `\a \b \f \n \r \t \v`; any other byte is itself
abbrev pub letter : ℕ → ℕ
letter c =
    if c == 97 then 7 else (if c == 98 then 8 else (if c == 102 then 12 else (if c == 110 then 10 else
    (if c == 114 then 13 else (if c == 116 then 9 else (if c == 118 then 11 else c))))))

-- the byte that the text after a `\` names, and what follows it; none at the end of the text
unfoldable pub escape : List ℕ → Option (ℕ × List ℕ)
escape [] = None
escape (c ∷ s) = if is_octal c then Some (octal 2 (c - 48) s) else Some (letter c, s)
