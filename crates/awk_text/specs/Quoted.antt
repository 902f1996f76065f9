-- A text as the log of denials and the messages of a run have it.
use Rattle.std.specs.Prelude.{ℕ, ◌+◌, ◌/◌, ◌%◌, Bool, ◌&&◌, not, ◌==◌, nat_lt, nat_le, List, [], ◌∷◌, if◌then◌else◌}
use Rattle.std.specs.List.{flat_map}

-- the character of a hexadecimal digit below 16, in lower case
abbrev pub hex_digit : ℕ → ℕ
hex_digit n = if nat_lt n 10 then 48 + n else 87 + n

-- a printing character of ASCII, or the space, but for `"` and `\`
abbrev pub is_plain : ℕ → Bool
is_plain b = nat_le 0x20 b && nat_le b 0x7E && not (b == 0x22) && not (b == 0x5C)

-- a byte as itself where it is plain, else as `\xHH`
unfoldable pub quoted_byte : ℕ → List ℕ
quoted_byte b = if is_plain b then b ∷ [] else 0x5C ∷ 0x78 ∷ hex_digit (b / 16) ∷ hex_digit (b % 16) ∷ []

-- each byte in its turn
abbrev pub quoted : List ℕ → List ℕ
quoted text = flat_map quoted_byte text
