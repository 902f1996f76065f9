-- Where an extended regular expression ends
-- (POSIX.1-2017 XCU awk, "Lexical Conventions", rule 4; bracket expressions: XBD 9.3.5).
use Rattle.std.specs.Prelude.{◌≡◌, ◌≢◌, ℕ, true, List, [], ◌∷◌, ◌++◌, codes, slice_index}
use Rattle.std.specs.Char.{is_ascii_alphabetic}
use Rattle.std.specs.List.{list_all}
use Rattle.awk_tokens.specs.Bytes.{Text}
use Rattle.awk_tokens.specs.declared.scan.ErePart.{ErePart}
use Rattle.awk_tokens.specs.declared.scan.ErePart.TheVariants.{Outside, Opened, Inside}

-- the text begins with what follows `[` in a class such as `[:alpha:]`, and this is left behind it
abbrev pub BeginsClass : Text → Text → Type 0
BeginsClass z left = (name : Text) × (list_all is_ascii_alphabetic name ≡ true) × (z ≡ 58 ∷ (name ++ (58 ∷ 93 ∷ left)))

-- The text ends an expression before the rest: by the first `/` that no `\` takes with it and that
-- stands in no bracket expression. The part says where the text stands: outside of a bracket
-- expression, directly behind the `[` or `[^` that opens one, or further inside it. A newline
-- stands in an expression only behind a `\`.
-- 47 is `/`, 92 is `\`, 10 is the newline, 91 is `[`, 93 is `]`, 94 is `^`.
pub data PatternEnds : ErePart → Text → Text → Type 0 where
  ends : (rest : Text) → PatternEnds Outside (47 ∷ rest) rest
  escaped : (b : ℕ) (z rest : Text) → PatternEnds Outside z rest → PatternEnds Outside (92 ∷ b ∷ z) rest
  plain : (b : ℕ) (z rest : Text) → b ≢ 47 → b ≢ 92 → b ≢ 91 → b ≢ 10 → PatternEnds Outside z rest →
      PatternEnds Outside (b ∷ z) rest
  opens : (z rest : Text) → slice_index z 0 ≢ 94 → PatternEnds Opened z rest → PatternEnds Outside (91 ∷ z) rest
  opens_not : (z rest : Text) → PatternEnds Opened z rest → PatternEnds Outside (91 ∷ 94 ∷ z) rest
  -- a `]` that comes first stands for itself
  first : (z rest : Text) → PatternEnds Inside z rest → PatternEnds Opened (93 ∷ z) rest
  no_first : (z rest : Text) → slice_index z 0 ≢ 93 → PatternEnds Inside z rest → PatternEnds Opened z rest
  closes : (z rest : Text) → PatternEnds Outside z rest → PatternEnds Inside (93 ∷ z) rest
  member_escaped : (b : ℕ) (z rest : Text) → PatternEnds Inside z rest → PatternEnds Inside (92 ∷ b ∷ z) rest
  member : (b : ℕ) (z rest : Text) → b ≢ 93 → b ≢ 92 → b ≢ 10 → (b ≡ 91 → (left : Text) → BeginsClass z left → ⊥) →
      PatternEnds Inside z rest → PatternEnds Inside (b ∷ z) rest
  class : (z left rest : Text) → BeginsClass z left → PatternEnds Inside left rest → PatternEnds Inside (91 ∷ z) rest
