use Rattle.std.specs.Prelude.{◌≡◌, take}
use Rattle.std.specs.Str.Parse.{AllDigits, digits_value}
use Rattle.awk_lib.proofs.slot.number_of.Given as goal

-- the bytes so far are digits, and this is the number that they write
abbrev pub invariant-loop-digit : goal.invariant-loop-digit
invariant-loop-digit l = record {
  digits : AllDigits 10 (take l.digit-index l.digits);
  value : l.number
      ≡ digits_value 10 (take l.digit-index l.digits);
}
