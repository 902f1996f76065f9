-- The fields of a text (POSIX.1-2017 XCU awk, "Variables and Special Variables", FS and RS).
use Rattle.std.specs.Prelude.{◌≡◌, ◌==◌, ℕ, ◌+◌, ◌<◌, ◌||◌, ◌&&◌, Bool, true, false, List, [], ◌∷◌, length, map, filter}
use Rattle.std.specs.Prelude.{drop, Option, Some, None}
use Rattle.std.specs.List.{slice_range, slice_split}
use Rattle.awk_ere.specs.Pattern.{Pattern, bytes, alt}
use Rattle.awk_ere.specs.Best.{Best}
use Rattle.awk_ere.specs.Spelled.{IsPattern}
use Rattle.awk_fields.specs.Separators.{Separator, blanks, nothing, byte, ere}

-- ---- blanks

-- space, tab and newline
abbrev pub is_blank : ℕ → Bool
is_blank b = b == 32 || (b == 9 || b == 10)

abbrev pub has_bytes : List ℕ → Bool
has_bytes [] = false
has_bytes (b ∷ s) = true

-- the runs of bytes that are no blanks
abbrev pub words : List ℕ → List (List ℕ)
words s = filter has_bytes (slice_split is_blank s)

-- ---- one byte

-- this byte, and where the flag is set the newline
abbrev pub separates : ℕ → Bool → ℕ → Bool
separates c newline b = (newline && b == 10) || b == c

-- ---- an ERE

-- the pattern that separates: the ERE, and where the flag is set its alternation with a newline
abbrev pub separating : Bool → Pattern → Pattern
separating false p = p
separating true p = alt p (bytes (λ b. b == 10))

-- the best match of what separates, from a place of the text on
abbrev pub FindsSeparator : List ℕ → Bool → List ℕ → ℕ → Option (ℕ × ℕ) → Type 0
FindsSeparator source newline s from found =
    (p : Pattern) × IsPattern source p × Best s (separating newline p) from found

-- The matches that separate, from a place of the text on, in order: each is the best one behind the
-- one before, and an empty one separates nothing and is passed over by one byte.
pub data Separators : List ℕ → Bool → List ℕ → ℕ → List (ℕ × ℕ) → Type 0 where
  behind : (source : List ℕ) (newline : Bool) (s : List ℕ) (from : ℕ) → length s < from →
      Separators source newline s from []
  no_more : (source : List ℕ) (newline : Bool) (s : List ℕ) (from : ℕ) → FindsSeparator source newline s from None →
      Separators source newline s from []
  passed : (source : List ℕ) (newline : Bool) (s : List ℕ) (from at : ℕ) (rest : List (ℕ × ℕ)) →
      FindsSeparator source newline s from (Some (at, at)) → Separators source newline s (at + 1) rest →
      Separators source newline s from rest
  then_one : (source : List ℕ) (newline : Bool) (s : List ℕ) (from start end : ℕ) (rest : List (ℕ × ℕ)) → start < end →
      FindsSeparator source newline s from (Some (start, end)) → Separators source newline s end rest →
      Separators source newline s from ((start, end) ∷ rest)

-- what stands before, between and after these parts of the text, from a place on
abbrev pub between : List ℕ → ℕ → List (ℕ × ℕ) → List (List ℕ)
between s from [] = drop from s ∷ []
between s from (m ∷ rest) = slice_range s from m.0 ∷ between s m.1 rest

-- ---- all of them

-- the parts of a text that is not empty
abbrev pub Parts : Separator → List ℕ → List (List ℕ) → Type 0
Parts blanks s fields = fields ≡ words s
Parts nothing s fields = fields ≡ map (λ b. b ∷ []) s
Parts (byte c newline) s fields = fields ≡ slice_split (separates c newline) s
Parts (ere source newline) s fields =
    (found : List (ℕ × ℕ)) × Separators source newline s 0 found × (fields ≡ between s 0 found)

-- an empty text has no fields
abbrev pub Fields : Separator → List ℕ → List (List ℕ) → Type 0
Fields separator [] fields = fields ≡ []
Fields separator (b ∷ s) fields = Parts separator (b ∷ s) fields
