-- What is read or set, as the code has it, and the target of the machine that it stands for.
use Rattle.std.specs.Prelude.{◌≡◌, zero, suc, if◌then◌else◌}
use Rattle.awk_numbers.specs.declared.number.Numbers.{Numbers}
use Rattle.awk_text.specs.declared.value.Value.{Value}
use Rattle.awk_text.specs.declared.value.Value.TheVariants as v
use Rattle.awk_program.specs.Program as p
use Rattle.awk_program.specs.View.{Names, variable_of}
use Rattle.awk_machine.specs.Operators.{of_count}
use Rattle.awk_machine.specs.Pieces as machine
use Rattle.awk_machine.specs.Targets.{target, as_number, as_record}
use Rattle.awk_store.specs.Kept as kept
use Rattle.awk_store.specs.Numbers.{whole_number}
use Rattle.awk_store.specs.declared.spot.Spot.{Spot}
use Rattle.awk_store.specs.declared.spot.Spot.TheVariants as s

abbrev pub meant : Names → Spot → machine.Target
meant names (s.Variable x) = machine.Variable (variable_of names x)
meant names (s.Element place x key) = machine.Element (variable_of names x) key place
meant names (s.Field n) = machine.Field n

-- the value that its subscripts, as one text, or its number gave
abbrev pub value_of : Spot → Value
value_of (s.Variable x) = v.Unset
value_of (s.Element place x key) = v.Text key
value_of (s.Field n) = of_count n

-- it is what this stands for
abbrev pub IsSpotOf : Names → p.Reference → Spot → Type 0
IsSpotOf names r x = target r (value_of x) ≡ meant names x

-- what an assignment to it gives: for NF it is always a number, and for `$0` input unless it is a number with a
-- fraction
abbrev pub stored : Numbers → Spot → Value → Value
stored numbers (s.Variable x) val = if kept.is_nf x then as_number (whole_number numbers val) else val
stored numbers (s.Element place x key) val = val
stored numbers (s.Field zero) val = as_record val
stored numbers (s.Field (suc n)) val = val
