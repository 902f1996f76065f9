-- What separates the fields of a record: the variable FS, together with whether RS is empty
-- (POSIX.1-2017 XCU awk, "Variables and Special Variables").
use Rattle.std.specs.Prelude.{◌≢◌, ◌==◌, ℕ, Bool, if◌then◌else◌, List, [], ◌∷◌}
use Rattle.awk_ere.specs.Pattern.{Pattern}
use Rattle.awk_ere.specs.Spelled.{IsPattern, IsRefused}

pub data Separator : Type 0 where
  -- runs of spaces, tabs and newlines
  blanks : Separator
  -- nothing, so that each byte is a field
  nothing : Separator
  -- each of this byte, and where the flag is set each newline too
  byte : ℕ → Bool → Separator
  -- the matches of the ERE that the text spells, and where the flag is set of a newline too
  ere : List ℕ → Bool → Separator

-- what the value of FS stands for; 32 is the space
abbrev pub separator : List ℕ → Bool → Separator
separator [] rs_empty = nothing
separator (b ∷ []) rs_empty = if b == 32 then blanks else byte b rs_empty
separator (b ∷ c ∷ s) rs_empty = ere (b ∷ c ∷ s) rs_empty

-- the matches of an ERE separate
abbrev pub IsByEre : Separator → Type 0
IsByEre blanks = ⊥
IsByEre nothing = ⊥
IsByEre (byte b newline) = ⊥
IsByEre (ere source newline) = Unit {0}

-- the text is an ERE
abbrev pub IsEre : List ℕ → Type 0
IsEre s = (p : Pattern) × IsPattern s p

-- The text is refused as an ERE: it spells none, or is over the limits. The code 4 is that of
-- memory, and says nothing of the text.
abbrev pub IsNoEre : List ℕ → Type 0
IsNoEre s = (code : ℕ) × (code ≢ 4) × IsRefused s code
