-- Which flaw stands in the items of a script, and how it is named.
use Rattle.std.specs.Prelude.{List}
use Rattle.awk_text.specs.declared.place.Place.{Place}
use Rattle.awk_tokens.specs.declared.syntax_error.SyntaxError.{SyntaxError}
use Rattle.awk_resolve.specs.declared.mention.Section.{Section}
use Rattle.awk_resolve.specs.Faults.{Misplaced, Misdefined}
use Rattle.awk_resolve.specs.Kinds.{Clashes, NotAfter}
use Rattle.awk_parse.specs.declared.flaw.Flaw.{Flaw}
use Rattle.awk_parse.specs.declared.flaw.Flaw.TheVariants as flaw

-- every word stands where it can
abbrev pub ArePlaced : List Section → Type 0
ArePlaced parts = (place : Place) → Misplaced parts place → ⊥

-- every function and every parameter is defined as it is used
abbrev pub AreDefined : List Section → Type 0
AreDefined parts = (place : Place) → Misdefined parts place → ⊥

-- The flaw that is named where there are several: words come before functions, and these before
-- kinds, of which the first in the script is named. Memory may be refused whatever the items are.
pub data Flawed (parts : List Section) : Flaw → Type 0 where
  memory : Flawed parts flaw.Memory
  word : (place : Place) → Misplaced parts place → Flawed parts (flaw.Word place)
  function : (place : Place) → ArePlaced parts → Misdefined parts place → Flawed parts (flaw.Function place)
  kind :
      (place : Place) → ArePlaced parts → AreDefined parts → Clashes parts place →
      ((other : Place) → Clashes parts other → NotAfter place other) →
      Flawed parts (flaw.Kind place)

abbrev pub refusal : Flaw → SyntaxError
refusal flaw.Memory = record { code = 9; place = record { line = 0; column = 0 } }
refusal (flaw.Word place) = record { code = 8; place = place }
refusal (flaw.Function place) = record { code = 7; place = place }
refusal (flaw.Kind place) = record { code = 6; place = place }
