-- What contracts see of a splitter.
use Rattle.awk_fields.specs.Separators.{Separator, blanks, nothing, byte, ere}
use Rattle.awk_fields.specs.declared.splitter.By.{By}
use Rattle.awk_fields.specs.declared.splitter.By.TheVariants.{Blanks, Nothing, Byte, Ere}

abbrev pub separator_by : By → Separator
separator_by Blanks = blanks
separator_by Nothing = nothing
separator_by (Byte b newline) = byte b newline
separator_by (Ere pattern newline) = ere pattern.value newline
