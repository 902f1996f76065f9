-- An angle in quarters of a turn, which is 2 / pi times as much, modulo 4: a whole number times 2 ^ -126. But for 0 no
-- double is nearer to a whole number of quarters than 2 ^ -62 of one, so that of what is left at least 60 bits are
-- right.
use Rattle.std.specs.Prelude.{ℕ, pos, ◌+◌, ◌-◌, ◌*◌, ◌/◌, ◌%◌, ◌^◌, ◌==◌, if◌then◌else◌, List, [], ◌∷◌}
use Rattle.std.specs.Float.{Float, binary64}
use lib.Ieee.{of_int, to_bits}
use Rattle.awk_numbers.specs.Formula.{bits, high, less, plus, times}

-- the digits of 2 / pi behind the point, to the base 2 ^ 64, the last one first
abbrev pub words : List ℕ
words =
    0x5603_3046_fc7b_6bab ∷ 0x6bfb_5fb1_1f8d_5d08 ∷ 0x3d07_39f7_8a52_92ea ∷ 0x7527_bac7_ebe5_f17b
    ∷ 0x4f46_3f66_9e5f_ea2d ∷ 0x6d36_7ecf_27cb_09b7 ∷ 0xef2f_118b_5a0a_6d1f ∷ 0x1ff8_97ff_de05_980f
    ∷ 0x9c84_5f8b_bdf9_283b ∷ 0x3991_d639_8353_39f4 ∷ 0xe99c_7026_b45f_7e41 ∷ 0xe882_35f5_2ebb_4484
    ∷ 0xfe1d_eb1c_b129_a73e ∷ 0x0649_2eea_09d1_921c ∷ 0xb724_6e3a_424d_d2e0 ∷ 0xfe51_63ab_debb_c561
    ∷ 0xdb62_9599_3c43_9041 ∷ 0xfc27_57d1_f534_ddc0 ∷ 0xa2f9_836e_4e44_1529 ∷ []

-- the number of such digits
abbrev pub number_of : List ℕ → ℕ
number_of [] = 0
number_of (d ∷ ds) = d + 2 ^ 64 * number_of ds

-- 2 / pi times 2 ^ 1216, without its fraction
unfoldable pub two_over_pi : ℕ
two_over_pi = number_of words

-- the quarters in m * 2 ^ (1026 - k)
unfoldable pub quarters : ℕ → ℕ → ℕ
quarters m k = m * (two_over_pi / 2 ^ k) / 2 ^ 64 % 2 ^ 128

-- those in a double from 1/2 on
abbrev pub in_double : Float → ℕ
in_double x = quarters (2 ^ 52 + to_bits binary64 x % 2 ^ 52) (2101 - to_bits binary64 x / 2 ^ 52 % 2048)

-- how many eighths of a turn are full, and how far it is to the nearest quarter
abbrev pub octant : ℕ → ℕ
octant q = q / 2 ^ 125

abbrev pub to_quarter : ℕ → ℕ
to_quarter q = if octant q % 2 == 0 then q % 2 ^ 125 else 2 ^ 125 - q % 2 ^ 125

-- ---- as two doubles
-- a sum of three doubles, each so much smaller that its digits come behind those of the one before it
unfoldable pub sum_of_three : Float → Float → Float → Float × Float
sum_of_three a b c =
    let t = plus b c in
    let s = plus a t in
    (s, plus (less t (less s a)) (less c (less t b)))

-- n times 2 ^ -126: each 42 bits are a double
unfoldable pub as_doubles : ℕ → Float × Float
as_doubles n =
    sum_of_three (times (of_int binary64 (pos (n / 2 ^ 84))) (bits 0x3d50_0000_0000_0000))
    (times (of_int binary64 (pos (n / 2 ^ 42 % 2 ^ 42))) (bits 0x3ab0_0000_0000_0000))
    (times (of_int binary64 (pos (n % 2 ^ 42))) (bits 0x3810_0000_0000_0000))

-- what x * pi / 2 is beside p, the product of x and the double nearest to pi / 2, which is one half less the other
unfoldable pub beside_product : Float → Float → Float
beside_product x p =
    let h = high x in
    let first = less (less (times h (bits 0x3ff9_21fb_5800_0000)) p) (times h (bits 0x3e4d_de97_4000_0000)) in
    less (plus first (times (less x h) (bits 0x3ff9_21fb_5800_0000))) (times (less x h) (bits 0x3e4d_de97_4000_0000))

-- x + y times pi / 2
unfoldable pub as_angle : Float → Float → Float × Float
as_angle x y =
    let p = times x (bits 0x3ff9_21fb_5444_2d18) in (
      p,
      plus (beside_product x p)
          (plus (times x (bits 0x3c91_a626_3314_5c07)) (times y (bits 0x3ff9_21fb_5444_2d18))),
    )

-- n quarters, times 2 ^ -126, as an angle
unfoldable pub angle : ℕ → Float × Float
angle n = let x = as_doubles n in as_angle x.0 x.1
