-- An array that is filled with parts.
use Rattle.std.proofs.Common.{OnOk, IfErr, ℤ, None, inr, ◌≡◌, ◌≤◌, ◌<◌, Bool, true, false, List, [], length, Result, Ok}
use Rattle.std.proofs.Common.{Err, refl, sym, ap, ◌∙◌, arith}
use Rattle.std.proofs.lemmas.Bool.Decides.{nat_tests}
use Rattle.std.specs.Prelude.{nat_le}
use Rattle.awk_text.specs.declared.fault.Fault.{Fault}
use Rattle.awk_text.specs.declared.fault.Fault.TheVariants.{TooManyElements}
use Rattle.awk_lib.specs.Arrays.{most_elements}
use Rattle.awk_lib.specs.Parts.{texts_from}
use Rattle.awk_program.specs.Slots.{Text}
use Rattle.awk_machine.specs.State.{Array}
use Rattle.awk_store.specs.Filled.{filled, Fills}

filled_by : (b : Bool) (parts : List Text) → nat_le (length parts) most_elements ≡ b → length parts ≤ most_elements
    → filled parts ≡ Ok (texts_from 1 parts)
filled_by true parts e few = rw e refl
filled_by false parts e few = absurd (grind (arith, nat_tests))

pub fills : (parts : List Text) (array : Array) → length parts ≤ most_elements → array ≡ texts_from 1 parts
    → filled parts ≡ Ok array
fills parts array few is = filled_by (nat_le (length parts) most_elements) parts refl few ∙ ap (λ a. Ok a) (sym is)

refused_by : (b : Bool) (parts : List Text) → nat_le (length parts) most_elements ≡ b → most_elements < length parts
    → filled parts ≡ Err TooManyElements
refused_by true parts e many = absurd (grind (arith, nat_tests))
refused_by false parts e many = rw e refl

pub refused : (parts : List Text) → most_elements < length parts → filled parts ≡ Err TooManyElements
refused parts many = refused_by (nat_le (length parts) most_elements) parts refl many

-- where there is no array, what holds one holds whatever is put there
pub none_filled : (r : Result ℤ Fault) (parts : List Text) (Holds : Array → Type 0) → ((a : Array) → Holds a)
    → OnOk r (filled parts ≡ Ok (texts_from 1 parts)) → IfErr r (λ e. filled parts ≡ Err e)
    → Fills None parts r Holds
none_filled (Ok n) parts Holds all ok err = (texts_from 1 parts, ok, tt, all _)
none_filled (Err e) parts Holds all ok err = ([], tt, inr (err, refl), all _)
