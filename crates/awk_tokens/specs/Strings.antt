-- Where a string ends (POSIX.1-2017 XCU awk, "Lexical Conventions", rule 3).
use Rattle.std.specs.Prelude.{◌≢◌, ℕ, List, ◌∷◌}
use Rattle.awk_tokens.specs.Bytes.{Text}

-- The text, which stands behind the `"` that opens a string, ends it before the rest: by the first
-- `"` that no `\` takes with it. A newline stands in a string only behind a `\`.
-- 34 is `"`, 92 is `\`, 10 is the newline.
pub data StringEnds : Text → Text → Type 0 where
  ends : (rest : Text) → StringEnds (34 ∷ rest) rest
  escaped : (b : ℕ) (z rest : Text) → StringEnds z rest → StringEnds (92 ∷ b ∷ z) rest
  plain : (b : ℕ) (z rest : Text) → b ≢ 34 → b ≢ 92 → b ≢ 10 → StringEnds z rest → StringEnds (b ∷ z) rest
