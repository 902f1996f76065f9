-- What a reader holds, and what it answers.
use Rattle.std.specs.Prelude.{◌≡◌, ◌==◌, ℕ, ◌≤◌, Bool, if◌then◌else◌, List, length, take, drop, None}
use Rattle.std.specs.List.{slice_range, prefix_len, position_or_len}
use Rattle.awk_fields.specs.Heads.{Head, taken, need_more, done, too_long, is_newline, pair_place}
use Rattle.awk_fields.specs.declared.front.Front.{Front}
use Rattle.awk_fields.specs.declared.front.Front.TheVariants.{Record, NeedMore, Done, TooLong}
use Rattle.awk_fields.specs.declared.front.Searched.{Searched}
use Rattle.awk_fields.specs.declared.front.Searched.TheVariants.{Byte, Paragraph}

-- so many bytes in front are newlines, and no two newlines stand in a row in so many behind them
pub record IsPassed (s : List ℕ) (passed count : ℕ) : Type 0 where
  pub newlines : passed ≤ prefix_len is_newline s
  pub inside : count ≤ length (drop passed s)
  pub none : pair_place (take count (drop passed s)) ≡ None

-- what is known of the bytes that are held
abbrev pub IsSearched : List ℕ → Searched → Type 0
IsSearched s (Byte mark count) = count ≤ position_or_len (λ b. b == mark) s
IsSearched s (Paragraph passed count) = IsPassed s passed count

-- the head that the places stand for
abbrev pub head_of : List ℕ → Front → Head
head_of s (Record start end next) = taken (slice_range s start end) (drop next s)
head_of s (NeedMore searched) = need_more
head_of s Done = done
head_of s TooLong = too_long

abbrev pub IsInside : List ℕ → Front → Type 0
IsInside s (Record start end next) = (start ≤ end) × (end ≤ length s) × (next ≤ length s)
IsInside s (NeedMore searched) = IsSearched s searched
IsInside s Done = Unit {0}
IsInside s TooLong = Unit {0}

-- the record of what is held from `start` on with no end seen
abbrev pub last_of : ℕ → ℕ → ℕ → Searched → Bool → Front
last_of start end next searched ended =
    if ended then (if start == end then Done else Record start end next) else NeedMore searched
