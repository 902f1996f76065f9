-- The text that print puts, as the store has what it is made of (POSIX.1-2017 XCU awk, "Output Statements").
use Rattle.std.specs.Prelude.{List, [], ◌∷◌, ◌++◌, Result}
use Rattle.awk_fields.specs.Rows.{joined}
use Rattle.awk_format.specs.Directives.{◌>>=◌}
use Rattle.awk_format.specs.NumberTexts.{values_by}
use Rattle.awk_text.specs.declared.fault.Fault.{Fault}
use Rattle.awk_text.specs.declared.value.Value.{Value}
use Rattle.awk_text.specs.declared.value.Value.TheVariants as v
use Rattle.awk_program.specs.Slots.{Text}
use Rattle.awk_program.specs.declared.variables.Own.TheVariants as own
use Rattle.awk_machine.specs.Operators.{limited}
use Rattle.awk_store.specs.Kept.{Kept, own_text}

abbrev pub items : Kept → List Value → List Value
items kept [] = v.Input kept.row.whole ∷ []
items kept (x ∷ xs) = x ∷ xs

abbrev pub line_of : Kept → List Value → Result Text Fault
line_of kept vs = limited (joined (own_text kept own.Ofs) vs ++ own_text kept own.Ors)

-- numbers with a fraction have the texts that OFMT makes of them
abbrev pub by_ofmt : Kept → List Value → Result Text Fault
by_ofmt kept vs = values_by kept.numbers (own_text kept own.Ofmt) vs >>= line_of kept

abbrev pub printed : Kept → List Value → Result Text Fault
printed kept vs = by_ofmt kept (items kept vs)
