-- A quoted text is ASCII, so it is UTF-8.
use Rattle.std.proofs.Common.{◌≡◌, ℕ, ◌<◌, ◌/◌, ◌%◌, Bool, true, false, cond, List, [], ◌∷◌, get_or, suc, refl, arith}
use Rattle.std.specs.Str.{IsAscii, IsUtf8}
use Rattle.std.proofs.lemmas.Bool.Decides.{nat_tests}
use Rattle.std.proofs.lemmas.Str.{IsAscii-append, IsUtf8-from_ascii}
use Rattle.std.proofs.lemmas.Str.Ascii.{IsAscii-nil, IsAscii-cons}
use Rattle.awk_text.specs.Quoted.{hex_digit, is_plain, quoted, quoted_byte}

digit_is_ascii : (n : ℕ) → n < 16 → hex_digit n < 128
digit_is_ascii n h = grind (arith, nat_tests)

plain_is_ascii : (b : ℕ) → is_plain b ≡ true → b < 128
plain_is_ascii b h = grind (arith, nat_tests)

escape_is_ascii : (high low : ℕ) → high < 128 → low < 128 → IsAscii (92 ∷ 120 ∷ high ∷ low ∷ [])
escape_is_ascii high low h l =
    IsAscii-cons 92 (120 ∷ high ∷ low ∷ []) (omega arith) (IsAscii-cons 120 (high ∷ low ∷ []) (omega arith)
    (IsAscii-cons high (low ∷ []) h (IsAscii-cons low [] l IsAscii-nil)))

byte_is_ascii : (b : ℕ) (plain : Bool) → b < 256 → (plain ≡ true → b < 128)
    → IsAscii (cond plain (b ∷ []) (92 ∷ 120 ∷ hex_digit (b / 16) ∷ hex_digit (b % 16) ∷ []))
byte_is_ascii b true h p = IsAscii-cons b [] (p refl) IsAscii-nil
byte_is_ascii b false h p = escape_is_ascii _ _ (digit_is_ascii (b / 16) (omega arith))
    (digit_is_ascii (b % 16) (omega arith))

quoted_is_ascii : (bs : List ℕ) → ((k : ℕ) → get_or bs k 0 < 256) → IsAscii (quoted bs)
unfolding quoted_byte
quoted_is_ascii [] h = IsAscii-nil
quoted_is_ascii (b ∷ bs) h = IsAscii-append _ _ (byte_is_ascii b (is_plain b) (h 0) (plain_is_ascii b))
    (quoted_is_ascii bs (λ k. h (suc k)))

pub quoted_is_text : (bs : List ℕ) → ((k : ℕ) → get_or bs k 0 < 256) → IsUtf8 (quoted bs)
quoted_is_text bs h = IsUtf8-from_ascii (quoted bs) (quoted_is_ascii bs h)
