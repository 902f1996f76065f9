-- The matches that sub and gsub replace, and the text that is then made (POSIX.1-2017 XCU awk, "String
-- Functions").
use Rattle.std.specs.Prelude.{◌≡◌, ℕ, ◌+◌, ◌<◌, ◌==◌, ◌&&◌, ◌||◌, Bool, true, false, if◌then◌else◌, ℤ, pos, List, []}
use Rattle.std.specs.Prelude.{◌∷◌, ◌++◌, length, drop, Option, Some, None, option_to_list}
use Rattle.std.specs.List.{slice_range}
use Rattle.awk_ere.specs.Spelled.{Finds}
use Rattle.awk_text.specs.Limits.{most_bytes}

-- ---- the matches

-- where the search goes on behind a match: past one more byte where it is empty
abbrev pub next_from : ℕ × ℕ → ℕ
next_from m = if m.0 == m.1 then m.1 + 1 else m.1

-- an empty match at the end of the match before is none
abbrev pub is_passed : Option ℕ → ℕ × ℕ → Bool
is_passed None m = false
is_passed (Some end) m = m.0 == m.1 && m.0 == end

-- The matches from a place on that gsub replaces, in order, with the end of the match before: each is
-- the best one from there on.
pub data AllFrom (source text : List ℕ) : ℕ → Option ℕ → List (ℕ × ℕ) → Type 0 where
  behind : (from : ℕ) (last : Option ℕ) → length text < from → AllFrom source text from last []
  no_more : (from : ℕ) (last : Option ℕ) → Finds source text from None → AllFrom source text from last []
  passed : (from : ℕ) (last : Option ℕ) (m : ℕ × ℕ) (rest : List (ℕ × ℕ)) → Finds source text from (Some m) →
      is_passed last m ≡ true
      → AllFrom source text (next_from m) last rest → AllFrom source text from last rest
  then_one : (from : ℕ) (last : Option ℕ) (m : ℕ × ℕ) (rest : List (ℕ × ℕ)) → Finds source text from (Some m) →
      is_passed last m ≡ false
      → AllFrom source text (next_from m) (Some m.1) rest → AllFrom source text from last (m ∷ rest)

-- the matches that are replaced: all of them, or the first alone
abbrev pub Found : List ℕ → List ℕ → Bool → List (ℕ × ℕ) → Type 0
Found source text true ms = AllFrom source text 0 None ms
Found source text false ms = (found : Option (ℕ × ℕ)) × Finds source text 0 found × (ms ≡ option_to_list found)

-- ---- the new text

-- What stands for a match: `&` is the matched text, `\&` is `&`, `\\` is one `\`, and any other `\` is
-- itself. The flag says that a `\` stands before. 38 is `&`, 92 is `\`.
abbrev pub filled : List ℕ → Bool → List ℕ → List ℕ
filled matched false [] = []
filled matched true [] = 92 ∷ []
filled matched false (b ∷ with) =
    if b == 92 then filled matched true with else (if b == 38 then matched else b ∷ []) ++ filled matched false with
filled matched true (b ∷ with) =
    if b == 38 || b == 92 then b ∷ filled matched false with else 92 ∷ b ∷ filled matched false with

-- the text from a place on, with what stands for each of these matches in its place
abbrev pub replaced : List ℕ → List ℕ → ℕ → List (ℕ × ℕ) → List ℕ
replaced with text from [] = drop from text
replaced with text from (m ∷ ms) =
    slice_range text from m.0 ++ filled (slice_range text m.0 m.1) false with ++ replaced with text m.1 ms

-- these matches are replaced, and this is the new text with their count
pub record IsReplaced (source with text : List ℕ) (all : Bool) (matches : List (ℕ × ℕ)) (new : List ℕ) (count : ℤ) :
    Type 0 where
  pub found : Found source text all matches
  pub text_is : new ≡ replaced with text 0 matches
  pub count_is : count ≡ pos (length matches)

-- these matches are to be replaced, and the new text is over the limit
pub record IsTooLong (source with text : List ℕ) (all : Bool) (matches : List (ℕ × ℕ)) : Type 0 where
  pub found : Found source text all matches
  pub long : most_bytes < length (replaced with text 0 matches)
