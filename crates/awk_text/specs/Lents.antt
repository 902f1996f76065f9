-- The value that a lent one is.
use Rattle.awk_text.specs.declared.value.Value.{Value}
use Rattle.awk_text.specs.declared.value.Value.TheVariants as v
use Rattle.awk_text.specs.declared.lent.Lent.{Lent}
use Rattle.awk_text.specs.declared.lent.Lent.TheVariants.{Unset, Num, Real, Text, Input}

abbrev pub lent_value : Lent → Value
lent_value Unset = v.Unset
lent_value (Num n) = v.Num n
lent_value (Real x) = v.Real x
lent_value (Text text) = v.Text text.now
lent_value (Input text) = v.Input text.now
