use Rattle.std.proofs.Common.{◌≡◌, length}
use Rattle.awk_numbers.specs.declared.number.Numbers.TheVariants as profile
use Rattle.awk_format.specs.Formatted.{pieces}
use Rattle.awk_format.specs.NumberTexts.{directives, is_left, is_of_number}
use Rattle.awk_format.proofs.number_texts.is_of_number.Given as goal

abbrev pub invariant-loop-rest : goal.invariant-loop-rest
invariant-loop-rest l = is_left l.found (directives (pieces profile.Double l.rest))
    ≡ is_of_number (directives (pieces profile.Double l.format))

abbrev pub decreases-loop-rest : goal.decreases-loop-rest
decreases-loop-rest l = length l.rest
