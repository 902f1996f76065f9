use Rattle.std.proofs.Common.{◌≡◌, refl, ap}
use Rattle.std.specs.Prelude.{ℤ, pos, negsuc}
use Rattle.std.specs.Float.{Float, binary64}
use lib.Ieee as ieee
use lib.Ieee.{neg, of_int}
use Rattle.awk_numbers.specs.Numbers.{settled}
use Rattle.awk_numbers.specs.declared.number.Number.TheVariants.{Whole}
use Rattle.awk_numbers.specs.declared.number.Numbers.{Numbers}
use Rattle.awk_numbers.specs.declared.number.Numbers.TheVariants as profile
use Rattle.awk_text.specs.Arithmetic.{add, sub}
use Rattle.awk_text.specs.Faults.{or_fault}
use Rattle.awk_builtins.proofs.at_hand.assignments.step_by.Goals as goal

minus_one : of_int binary64 (negsuc 0) ≡ neg (of_int binary64 (pos 1))
unfolding of_int neg
minus_one = refl

of_doubles : (x : Float) → or_fault (settled (ieee.add binary64 x (of_int binary64 (negsuc 0))))
    ≡ or_fault (settled (ieee.sub binary64 x (of_int binary64 (pos 1))))
unfolding ieee.sub
of_doubles x = ap (λ y. or_fault (settled (ieee.add binary64 x y))) minus_one

-- to add -1 is to take 1 away
one_less : (numbers : Numbers) (n : ℤ) → add numbers (Whole n) (Whole (negsuc 0)) ≡ sub numbers (Whole n) (Whole
    (pos 1))
one_less profile.Whole n = refl
one_less profile.Double n = of_doubles (of_int binary64 n)

pub returns-in-Decrement : goal.returns-in-Decrement
returns-in-Decrement c = λ numbers n. rw c.in-Decrement.is (one_less numbers n)
