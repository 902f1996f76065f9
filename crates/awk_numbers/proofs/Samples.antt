-- The rounded size at samples, as gawk prints them.
use Rattle.std.specs.Prelude.{◌≡◌, refl}
use Rattle.std.specs.Float.{binary64}
use lib.Ieee.{of_bits}
use Rattle.awk_numbers.specs.Digits.{rounded}

s1 : rounded (of_bits binary64 0x4005666666666666) 2 ≡ 267
unfolding of_bits rounded
s1 = refl

s2 : rounded (of_bits binary64 0x3fc0000000000000) 2 ≡ 12
unfolding of_bits rounded
s2 = refl

s3 : rounded (of_bits binary64 0x4004000000000000) 0 ≡ 2
unfolding of_bits rounded
s3 = refl

s4 : rounded (of_bits binary64 0x40934a0000000000) 3 ≡ 1234500
unfolding of_bits rounded
s4 = refl

s5 : rounded (of_bits binary64 0x3f70624dd2f1a9fc) 2 ≡ 0
unfolding of_bits rounded
s5 = refl

s6 : rounded (of_bits binary64 0x4023eb851eb851ec) 1 ≡ 100
unfolding of_bits rounded
s6 = refl

s7 : rounded (of_bits binary64 0x4480f0cf064dd592) 6 ≡ 10000000000000000000000000000
unfolding of_bits rounded
s7 = refl
