-- The first record of what is unread (POSIX.1-2017 XCU awk, "Variables and Special Variables", RS).
-- Here a value of RS of more than one byte stands for its first byte.
use Rattle.std.specs.Prelude.{◌≡◌, ◌==◌, ℕ, ◌+◌, ◌-◌, Bool, true, false, nat_lt, ◌&&◌, if◌then◌else◌, List, [], ◌∷◌}
use Rattle.std.specs.Prelude.{length, take, drop, Option, Some, None, option_map, slice_index}
use Rattle.std.specs.List.{prefix_len, position_or_len, before_first, after_first}
use Rattle.awk_text.specs.Limits.{most_bytes}

pub data Head : Type 0 where
  -- a record's text, and what is left behind it
  taken : List ℕ → List ℕ → Head
  -- the record's end can't be seen yet
  need_more : Head
  -- no record is left
  done : Head
  -- more bytes than a text may have lie before the record's end, or are held with no end seen
  too_long : Head

-- the record of what is held with no end seen: where the input has ended it ends the record, if there is one
abbrev pub last : List ℕ → Bool → Head
last text false = need_more
last [] true = done
last (b ∷ s) true = taken (b ∷ s) []

-- RS one byte: its first occurrence ends the record
abbrev pub line : ℕ → List ℕ → Bool → Head
line c unread ended =
    let ends = λ (b : ℕ). b == c in
    let place = position_or_len ends unread in
    if nat_lt most_bytes place then too_long
    else (if nat_lt place (length unread) then taken (before_first ends unread) (after_first ends unread)
    else last unread ended)

abbrev pub is_newline : ℕ → Bool
is_newline b = b == 10

-- the place of the first two newlines in a row
abbrev pub pair_place : List ℕ → Option ℕ
pair_place [] = None
pair_place (b ∷ []) = None
pair_place (b ∷ c ∷ s) = if b == 10 && c == 10 then Some 0 else option_map (λ k. k + 1) (pair_place (c ∷ s))

-- a text without a newline that stands last
abbrev pub trimmed : List ℕ → List ℕ
trimmed s = if slice_index s (length s - 1) == 10 then take (length s - 1) s else s

-- Two newlines end the record. Newlines in front of it are passed over, and count with it for the
-- limit; a newline that stands last in what is held doesn't count, so the cut makes no difference.
abbrev pub ended_by : Option ℕ → ℕ → List ℕ → List ℕ → Bool → Head
ended_by (Some k) passed body unread ended =
    if nat_lt most_bytes (passed + k) then too_long else taken (take k body) (drop (k + 2) body)
ended_by None passed body unread ended =
    if nat_lt most_bytes (length (trimmed unread)) then too_long else last (trimmed body) ended

-- RS empty
abbrev pub paragraph : List ℕ → Bool → Head
paragraph unread ended =
    let passed = prefix_len is_newline unread in
    let body = drop passed unread in
    ended_by (pair_place body) passed body unread ended

abbrev pub head : List ℕ → List ℕ → Bool → Head
head [] unread ended = paragraph unread ended
head (c ∷ rs) unread ended = line c unread ended

-- these texts are the records that stand first, one behind the other, and this is left behind them
abbrev pub FirstRecords : List ℕ → Bool → List ℕ → List (List ℕ) → List ℕ → Type 0
FirstRecords rs ended unread [] rest = unread ≡ rest
FirstRecords rs ended unread (text ∷ texts) rest =
    (after : List ℕ) × (head rs unread ended ≡ taken text after) × FirstRecords rs ended after texts rest

-- the records of a whole stream: the first of what is left again and again, up to the end
abbrev pub Records : List ℕ → List ℕ → List (List ℕ) → Type 0
Records rs whole texts = (rest : List ℕ) × FirstRecords rs true whole texts rest × (head rs rest true ≡ done)

-- no record stands first, and that is no fault
abbrev pub IsStopped : Head → Type 0
IsStopped (taken text rest) = ⊥
IsStopped need_more = Unit {0}
IsStopped done = Unit {0}
IsStopped too_long = ⊥

-- behind so many records stands one that is too long
abbrev pub IsTooLong : List ℕ → Bool → List ℕ → Type 0
IsTooLong rs ended unread = (texts : List (List ℕ)) × (rest : List ℕ) × FirstRecords rs ended unread texts rest
    × (head rs rest ended ≡ too_long)
