-- What stands where a pattern is wanted, once it has a value (POSIX.1-2017 XCU awk, "Regular Expressions").
use Rattle.std.specs.Prelude.{List, [], ◌∷◌}
use Rattle.awk_text.specs.declared.place.Place.{Place}
use Rattle.awk_text.specs.declared.value.Value.{Value}
use Rattle.awk_text.specs.declared.value.Value.TheVariants as v
use Rattle.awk_program.specs.Program as p
use Rattle.awk_program.specs.Program.{Expression, Ere, Reference}
use Rattle.awk_program.specs.declared.operators.Extent.{Extent}
use Rattle.awk_machine.specs.Pieces.{Piece, At, Do, Get, Value_of}
use Rattle.awk_machine.specs.Targets.{target}
use Rattle.awk_builtins.specs.declared.patterns.PatternValue.{PatternValue}
use Rattle.awk_builtins.specs.declared.patterns.PatternValue.TheVariants as s

-- the value that its part gave: of a constant its text
abbrev pub source_value : PatternValue → Value
source_value (s.Constant ere) = v.Text ere.value
source_value (s.Computed x) = x

-- it is a constant where the pattern is one, and else it was computed
abbrev pub IsSourceOf : Ere → PatternValue → Type 0
IsSourceOf (p.constant place x) (s.Constant ere) = Unit {0}
IsSourceOf (p.computed x) (s.Computed y) = Unit {0}
IsSourceOf x y = ⊥

-- what is left to be done once the pattern of sub or gsub was checked: the old text is read
abbrev pub reading : Place → Extent → Ere → Expression → Reference → (at new pattern : Value) → List Piece → List Piece
reading place how x y r at new pattern k =
    Do (Get (target r at)) ∷ At (Value_of (p.substitute place how x y r)) (at ∷ new ∷ pattern ∷ []) ∷ k
