-- A table over sets of steps: a state is the steps that a place is reached at, and a cell the state after a byte.
use Rattle.std.specs.Prelude.{◌≡◌, ◌==◌, ◌↔◌, ℕ, ◌+◌, ◌<◌, ◌≤◌, ◌⊎◌, Bool, true, false, List, [], ◌∷◌, ◌++◌, ◌&&◌}
use Rattle.std.specs.Prelude.{length, replicate, Option, Some, None, slice_index, slice_index_or, Contains}
use Rattle.std.specs.Simd.Lanes.{zip2, chunk}
use Rattle.awk_ere.specs.Program.{Eats}
use Rattle.awk_ere.specs.Search.{mark, IsClosed, Takes, LeadsTo, Goes, IsMachine}
use Rattle.awk_ere.specs.Pattern.{Pattern, bytes, cat, repeat}
use Rattle.awk_ere.specs.declared.program.Instruction.{Instruction}
use Rattle.awk_ere.specs.declared.states.TheConstants.{UNKNOWN}
use Rattle.awk_ere.specs.declared.search.TheConstants.{NONE}
use Rattle.awk_ere.specs.Bracket.{Range, in_range}
use Rattle.awk_ere.specs.declared.heads.Heads.{Heads}
use Rattle.awk_ere.specs.declared.heads.Spread.{Spread}
use Rattle.awk_ere.specs.declared.states.Begin.{Begin}
use Rattle.awk_ere.specs.declared.states.StateTable.{StateTable}

-- the steps of a state
abbrev pub steps_of : List (List ℕ) → ℕ → List ℕ
steps_of lists q = slice_index_or lists q []

abbrev pub cell : List (List ℕ) → ℕ → ℕ → ℕ
cell cells q b = slice_index (slice_index_or cells q []) b

-- T are the steps that those of S lead to without reading
pub record IsLed (program : List Instruction) (first last : Bool) (S T : List ℕ) : Type 0 where
  pub sound : (p : ℕ) → Contains T p → (x : ℕ) × Contains S x × LeadsTo program first last x p
  pub complete : (x p : ℕ) → x < length program → Contains S x → LeadsTo program first last x p → Contains T p

-- the marked steps are those that the steps of S lead to without reading
pub record AreLed (program : List Instruction) (first last : Bool) (S starts : List ℕ) : Type 0 where
  pub sound : (p : ℕ) → mark starts p < NONE → (x : ℕ) × Contains S x × LeadsTo program first last x p
  pub complete : (x p : ℕ) → x < length program → Contains S x → LeadsTo program first last x p → mark starts p < NONE

-- the list has the marked steps
pub record AreMarked (starts list : List ℕ) : Type 0 where
  pub sound : (p : ℕ) → Contains list p → mark starts p < NONE
  pub complete : (p : ℕ) → mark starts p < NONE → Contains list p

-- T are the steps that those of S go to over the byte b
pub record AreTargets (sets : List (List Bool)) (program : List Instruction) (b : ℕ) (S T : List ℕ) : Type 0 where
  pub sound : (t : ℕ) → Contains T t → (x : ℕ) × Contains S x × Takes sets program b x t
  pub complete : (x t : ℕ) → Contains S x → Takes sets program b x t → Contains T t

-- over the byte b the steps S lead to the steps T
pub record IsCell (sets : List (List Bool)) (program : List Instruction) (b : ℕ) (S T : List ℕ) : Type 0 where
  pub sound : (p : ℕ) → Contains T p → (x : ℕ) × (t : ℕ) × Contains S x × Takes sets program b x t
      × LeadsTo program false false t p
  pub complete : (x t p : ℕ) → Contains S x → Takes sets program b x t → LeadsTo program false false t p → Contains T p

-- new has what old has, and what passes P
abbrev pub Gains : (ℕ → Type 0) → List ℕ → List ℕ → Type 0
Gains P old new = (p : ℕ) → Contains new p ↔ (Contains old p ⊎ P p)

-- new marks what old marks, and what the step `from` leads to without reading
pub record LeadsMore (program : List Instruction) (first last : Bool) (from : ℕ) (old new : List ℕ) : Type 0 where
  pub lower : (q : ℕ) → mark new q ≤ mark old q
  pub there : from < length program → mark new from ≤ 0
  pub origin : (q : ℕ) → (mark new q ≡ mark old q) ⊎ ((mark new q ≡ 0) × LeadsTo program first last from q)
  pub closed : IsClosed program first last new

-- later states, which keep the numbers of these
abbrev pub Later : List (List ℕ) → List (List ℕ) → Type 0
Later lists all = (more : List (List ℕ)) × (all ≡ lists ++ more)

-- where the number is that of a state, it has these steps
abbrev pub IsNumber : List ℕ → List (List ℕ) → ℕ → Type 0
IsNumber list lists n = n < UNKNOWN → (n < length lists) × (steps_of lists n ≡ list)

-- where the number is that of a state, it is the one after the byte b in S
abbrev pub IsKnown : List (List Bool) → List Instruction → ℕ → List ℕ → List (List ℕ) → ℕ → Type 0
IsKnown sets program b S lists n = n < UNKNOWN → (n < length lists) × IsCell sets program b S (steps_of lists n)

-- where the byte b is no edge, each step takes it where it takes the byte before
abbrev pub AreEdges : List (List Bool) → List Instruction → List Bool → Type 0
AreEdges sets program edges =
    (slice_index_or edges 0 false ≡ true)
    × ((b q r : ℕ) → b + 1 < 256 → slice_index_or edges (b + 1) false ≡ false → Takes sets program (b + 1) q r ↔
    Takes sets program b q r)

-- the rows so far are right
abbrev pub AreRows : List (List Bool) → List Instruction → List (List ℕ) → List (List ℕ) → Type 0
AreRows sets program lists cells =
    (q b : ℕ) → q < length cells → b < 256 → IsKnown sets program b (steps_of lists q) lists (cell cells q b)

-- from the steps S a match ends here, or would at the end of the text
abbrev pub EndsAtLast : List Instruction → List ℕ → Type 0
EndsAtLast program S = (x : ℕ) × Contains S x × LeadsTo program false true x 0

-- the flags of the first so many states say where P holds
pub record AreFlags (P : ℕ → Type 0) (count : ℕ) (flags : List Bool) : Type 0 where
  pub len : length flags ≡ count
  pub each : (q : ℕ) → q < count → (slice_index_or flags q false ≡ true) ↔ P q

-- each known cell is right, and the flags say where a match ends
pub record IsTable (sets : List (List Bool)) (program : List Instruction) (lists cells : List (List ℕ))
    (accepts ends : List Bool) : Type 0 where
  pub right : (q b : ℕ) → q < length cells → b < 256 → cell cells q b < length cells →
      IsCell sets program b (steps_of lists q) (steps_of lists (cell cells q b))
  pub few : length cells ≤ UNKNOWN
  pub accept : AreFlags (λ q. Contains (steps_of lists q) 0) (length cells) accepts
  pub end : AreFlags (λ q. EndsAtLast program (steps_of lists q)) (length cells) ends
  pub dead : (x : ℕ) → Contains (steps_of lists 0) x → ⊥

-- where the number is that of a state, a search begins there
abbrev pub IsFirst : List Instruction → Bool → ℕ → List (List ℕ) → ℕ → Type 0
IsFirst program first entry lists n =
    n < UNKNOWN → (n < length lists) × IsLed program first false (entry ∷ []) (steps_of lists n)

-- from `from` up to `to` each byte leads to the state q
abbrev pub AllLead : List ℕ → List ℕ → ℕ → ℕ → ℕ → Type 0
AllLead row s q from to = (k : ℕ) → from ≤ k → k < to → slice_index row (slice_index s k) ≡ q

-- the first state has no step
abbrev pub IsDead : List (List ℕ) → Type 0
IsDead lists = (0 < length lists) × (steps_of lists 0 ≡ [])

abbrev pub IsBegin : List Instruction → ℕ → List (List ℕ) → Begin → Type 0
IsBegin program entry lists r = IsFirst program true entry lists r.first × IsFirst program false entry lists r.later

-- the range has the byte
abbrev pub IsIn : Range → ℕ → Type 0
IsIn r b = (r.0 ≤ b) × (b ≤ r.1)

-- a match may begin with these two bytes
abbrev pub begins : Heads → ℕ → ℕ → Bool
begins h b c = in_range b h.first && in_range c h.second

-- the ends of the range, sixteen times
abbrev pub IsSpread : Range → Spread → Type 0
IsSpread r s = (s.low ≡ replicate 16 r.0) × (s.high ≡ replicate 16 r.1)

abbrev pub AreSpread : Heads → Type 0
AreSpread h = IsSpread h.first h.first_spread × IsSpread h.second h.second_spread

-- from the state q the byte leads to no match, and none ends there
abbrev pub Stops : List (List ℕ) → List Bool → ℕ → ℕ → Type 0
Stops cells accepts q c =
    (q ≡ 0) ⊎ ((q < length cells) × (slice_index_or accepts q false ≡ false) × (cell cells q c ≡ 0))

-- a match that begins in the state q, with two bytes or more, begins with two of the ranges
abbrev pub AreHeads : List (List ℕ) → List Bool → ℕ → Heads → Type 0
AreHeads cells accepts q h = (b c : ℕ) → b < 256 → c < 256 → (begins h b c ≡ true)
    ⊎ ((q < length cells) × (slice_index_or accepts q false ≡ false) × Stops cells accepts (cell cells q b) c)

-- at which of the sixteen places from k on a match may begin
abbrev pub marks_of : Heads → List ℕ → ℕ → List Bool
marks_of h s k = zip2 (begins h) (chunk k 16 s) (chunk (k + 1) 16 s)

-- up to `to` a match may begin with no byte and the one behind it
abbrev pub NoneBegin : Heads → List ℕ → ℕ → ℕ → Type 0
NoneBegin h s from to =
    (k : ℕ) → from ≤ k → k < to → (k + 1 < length s) × (begins h (slice_index s k) (slice_index s (k + 1)) ≡ false)

-- the table of a program, for searches from two of its steps
pub record IsBuilt (sets : List (List Bool)) (program : List Instruction) (entry scan : ℕ)
    (t : StateTable) : Type 0 where
  pub lists : List (List ℕ)
  pub table : IsTable sets program lists t.cells.items t.accepts.items t.ends.items
  pub entries : IsBegin program entry lists t.entry
  pub scans : IsBegin program scan lists t.scan
  pub heads : AreHeads t.cells.items t.accepts.items t.entry.later t.heads
  pub spread : AreSpread t.heads

module _ (sets : List (List Bool)) (program : List Instruction) (s : List ℕ) where
  -- p is reached at the place k from e at i, where the end of the text is not looked at
  abbrev pub Arrives : ℕ → ℕ → ℕ → ℕ → Type 0
  Arrives e i k p =
      ((k ≡ i) × LeadsTo program (i == 0) false e p)
      ⊎ ((x : ℕ) × (t : ℕ) × (l : ℕ) × (k ≡ l + 1) × Goes sets program s e i x l × Eats sets program s x l t
      × LeadsTo program false false t p)

  -- the steps S are those that are reached at k from e at i
  pub record IsFront (e i k : ℕ) (S : List ℕ) : Type 0 where
    pub sound : (p : ℕ) → Contains S p → Arrives e i k p
    pub complete : (p : ℕ) → Arrives e i k p → Contains S p

  -- the longest match from i among those that end below the bound
  abbrev pub IsLongest : ℕ → ℕ → ℕ → Option ℕ → Type 0
  IsLongest e i bound None = (j : ℕ) → j < bound → Goes sets program s e i 0 j → ⊥
  IsLongest e i bound (Some j) =
      (j < bound) × Goes sets program s e i 0 j × ((l : ℕ) → l < bound → Goes sets program s e i 0 l → l ≤ j)

  -- a match from i ends somewhere
  abbrev pub EndsSomewhere : ℕ → ℕ → Type 0
  EndsSomewhere e i = (j : ℕ) × (j ≤ length s) × Goes sets program s e i 0 j

  -- at the place k a search from e at i is in this state
  abbrev pub IsAt : List (List ℕ) → List Bool → List Bool → ℕ → ℕ → ℕ → ℕ → Type 0
  IsAt cells accepts ends e i k state =
      (lists : List (List ℕ)) × IsTable sets program lists cells accepts ends × (state < length cells)
      × IsFront e i k (steps_of lists state)

-- p after any bytes
abbrev pub anywhere : Pattern → Pattern
anywhere p = cat (repeat (bytes (λ b. true)) 0 None) p

-- what finds the matches of a pattern: a match begins at the step `entry`, or after any bytes at the step `scan`
pub record Matcher : Type 0 where
  pub sets : List (List Bool)
  pub program : List Instruction
  pub table : StateTable
  pub entry : ℕ
  pub scan : ℕ

-- the matcher is that of the pattern
pub record IsMatcher (m : Matcher) (p : Pattern) : Type 0 where
  pub machine : IsMachine m.sets m.program m.entry p
  pub scanner : IsMachine m.sets m.program m.scan (anywhere p)
  pub built : IsBuilt m.sets m.program m.entry m.scan m.table
