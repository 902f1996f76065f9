-- The literals of the code.
use Rattle.std.specs.Prelude.{◌≡◌, refl}
use Rattle.std.specs.Float.{binary64, two_to, minus_two_to}
use lib.Ieee.{of_bits}

pub lowest_is : of_bits binary64 0xc340_0000_0000_0000 ≡ minus_two_to 53
unfolding of_bits
lowest_is = refl

pub highest_is : of_bits binary64 0x4340_0000_0000_0000 ≡ two_to 53
unfolding of_bits
highest_is = refl

pub least_is : of_bits binary64 0xc3e0_0000_0000_0000 ≡ minus_two_to 63
unfolding of_bits
least_is = refl

pub past_is : of_bits binary64 0x43e0_0000_0000_0000 ≡ two_to 63
unfolding of_bits
past_is = refl
