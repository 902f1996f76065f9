-- What the reader of tokens gives, beside what the text says.
use Rattle.std.specs.Prelude.{◌≡◌, ℕ, ◌+◌, ◌<◌, min, Bool, true, false, not, ◌||◌, List, ◌++◌, Option, Some, option_map}
use Rattle.std.specs.Prelude.{slice_index_or}
use Rattle.std.specs.List.{list_any}
use Rattle.awk_ere.specs.Pattern.{bytes, start, finish}
use Rattle.awk_ere.specs.Interval.{Times, factor}
use Rattle.awk_ere.specs.Bracket.{Range, in_range, in_set}
use Rattle.awk_ere.specs.Token as spec
use Rattle.awk_ere.specs.Program.{holds}
use Rattle.awk_ere.specs.declared.token.Class.{Class}
use Rattle.awk_ere.specs.declared.token.Class.TheVariants.{One, Any, In}
use Rattle.awk_ere.specs.declared.token.Times as code
use Rattle.awk_ere.specs.declared.token.Token.{Token}
use Rattle.awk_ere.specs.declared.token.Token.TheVariants.{Atom, Start, End, Repeat, Opening, Closing, Bar}

-- the bounds, where those over 255 are kept as 256
abbrev pub IsCapped : Times → ℕ → Option ℕ → Type 0
IsCapped t least most = (least ≡ min 256 t.0) × (most ≡ option_map (λ n. min 256 n) t.1)

-- an interval was read
abbrev pub IsInterval : Option (Times × List ℕ) → ℕ → Option ℕ → List ℕ → Type 0
IsInterval read least most rest = (t : Times) × (read ≡ Some (t, rest)) × IsCapped t least most

-- the code's bounds and factor are these
abbrev pub IsTimes : Times → code.Times → Type 0
IsTimes t r = (r.least ≡ t.0) × (option_map (λ m. r.least + m) r.more ≡ t.1) × (r.factor ≡ factor t)

-- whether the byte is in the set
abbrev pub has : List Bool → ℕ → Bool
has set b = slice_index_or set b false

abbrev pub IsEmptySet : List Bool → Type 0
IsEmptySet set = (b : ℕ) → has set b ≡ false

-- the ranges were added to the set
abbrev pub Adds : List Bool → List Range → List Bool → Type 0
Adds old ranges new = (b : ℕ) → b < 256 → has new b ≡ (list_any (in_range b) ranges || has old b)

-- an item was read and its ranges were added
abbrev pub IsItem : Option (List Range × List ℕ) → List Bool → List Bool → List ℕ → Type 0
IsItem read old new rest = (ranges : List Range) × (read ≡ Some (ranges, rest)) × Adds old ranges new

abbrev pub IsNegated : List Bool → List Bool → Type 0
IsNegated old new = (b : ℕ) → b < 256 → has new b ≡ not (has old b)

-- a bracket expression was read, and the set has its bytes
abbrev pub IsSet : Option (Bool × List Range × List ℕ) → List Bool → List ℕ → Type 0
IsSet read set rest = (negated : Bool) × (ranges : List Range) × (read ≡ Some (negated, ranges, rest))
    × ((b : ℕ) → has set b ≡ in_set negated ranges b)

-- later sets, which keep the numbers of these
abbrev pub Later : List (List Bool) → List (List Bool) → Type 0
Later sets all = (more : List (List Bool)) × (all ≡ sets ++ more)

-- the code's class of bytes is this atom, whatever sets are added
abbrev pub IsAtom : List (List Bool) → Class → spec.Token → Type 0
IsAtom sets (One c) t = t ≡ spec.byte c
IsAtom sets Any t = t ≡ spec.atom (bytes (λ b. true))
IsAtom sets (In k) t = (test : ℕ → Bool) × (t ≡ spec.atom (bytes test))
    × ((all : List (List Bool)) → Later sets all → (b : ℕ) → holds all (In k) b ≡ test b)

-- the code's token stands for this one
abbrev pub IsToken : List (List Bool) → Token → spec.Token → Type 0
IsToken sets (Atom class) t = IsAtom sets class t
IsToken sets Start t = t ≡ spec.anchor start
IsToken sets End t = t ≡ spec.anchor finish
IsToken sets (Repeat r) t = t ≡ spec.times r.least (option_map (λ m. r.least + m) r.more) r.factor
IsToken sets Opening t = t ≡ spec.opening
IsToken sets Closing t = t ≡ spec.closing
IsToken sets Bar t = t ≡ spec.bar

-- what was read at the front: a token, and what follows it
abbrev pub IsFront : List (List Bool) → spec.Front → Token → List ℕ → Type 0
IsFront sets read token rest = (t : spec.Token) × (read ≡ spec.token t rest) × IsToken sets token t
