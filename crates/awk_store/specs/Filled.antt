-- The array that split fills (POSIX.1-2017 XCU awk, "String Functions").
use Rattle.std.specs.Prelude.{◌≡◌, ◌⊎◌, nat_le, if◌then◌else◌, ℤ, List, [], length, Option, unwrap_or, Result, Ok, Err}
use Rattle.std.specs.Prelude.{OnOk, IfErr}
use Rattle.awk_text.specs.declared.fault.Fault.{Fault}
use Rattle.awk_text.specs.declared.fault.Fault.TheVariants.{Memory as NoMemory, TooManyElements}
use Rattle.awk_lib.specs.Arrays.{most_elements}
use Rattle.awk_lib.specs.Parts.{texts_from}
use Rattle.awk_program.specs.Slots.{Text}
use Rattle.awk_machine.specs.State.{Array}

-- the parts under the keys 1, 2 and so on, where there are not too many
abbrev pub filled : List Text → Result Array Fault
filled parts = if nat_le (length parts) most_elements then Ok (texts_from 1 parts) else Err TooManyElements

-- the parts put into an array, in place of what it holds, where there is one: what holds the array then holds the new
-- one. Where there are too many, that is the one of before
abbrev pub Fills : Option Array → List Text → Result ℤ Fault → (Array → Type 0) → Type 0
Fills at parts result Holds = (new : Array) × OnOk result (filled parts ≡ Ok new)
    × IfErr result (λ e. (e ≡ NoMemory) ⊎ ((filled parts ≡ Err e) × (new ≡ unwrap_or at []))) × Holds new
