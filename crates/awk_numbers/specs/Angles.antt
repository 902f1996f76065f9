-- Sines and cosines by one formula: of what is left of an angle beside the nearest quarter of a turn, by the
-- polynomials of fdlibm's `__kernel_sin` and `__kernel_cos`. Each operation on doubles is IEEE 754's and is rounded
-- once, and each constant stands as its bits.
use Rattle.std.specs.Prelude.{ℕ, ◌+◌, ◌%◌, false, nat_lt, if◌then◌else◌}
use Rattle.std.specs.Float.{Float, float_is_finite, float_with_sign, float_zero}
use lib.Ieee.{le, lt, neg}
use Rattle.awk_numbers.specs.Formula.{bits, less, plus, times}
use Rattle.awk_numbers.specs.Quarters.{angle, in_double, octant, to_quarter}

-- ---- from 0 to pi / 4
-- the sine is x - x ^ 3 / 6 + x ^ 5 * this, where this is given x ^ 2
unfoldable pub sine_terms : Float → Float
sine_terms z =
    less (bits 0x3f81_1111_1110_f8a6) (times z (less (bits 0x3f2a_01a0_19c1_61d5)
    (times z (less (bits 0x3ec7_1de3_57b1_fe7d) (times z (less (bits 0x3e5a_e5e6_8a2b_9ceb)
    (times z (bits 0x3de5_d93a_5acf_d57c))))))))

-- the sine of x + y, where y is what x leaves of the angle
unfoldable pub small_sine : Float → Float → Float
small_sine x y =
    let z = times x x in
    let v = times z x in
    let beside = less (times z (less (times (bits 0x3fe0_0000_0000_0000) y) (times v (sine_terms z)))) y in
    less x (plus beside (times v (bits 0x3fc5_5555_5555_5549)))

-- the cosine is 1 - x ^ 2 / 2 + x ^ 2 * this
unfoldable pub cosine_terms : Float → Float
cosine_terms z =
    times z (less (bits 0x3fa5_5555_5555_554c) (times z (less (bits 0x3f56_c16c_16c1_5177)
    (times z (less (bits 0x3efa_01a0_19cb_1590) (times z (less (bits 0x3e92_7e4f_809c_52ad)
    (times z (less (bits 0x3e21_ee9e_bdb4_b1c4) (times z (bits 0x3da8_fae9_be88_38d4)))))))))))

unfoldable pub small_cosine : Float → Float → Float
small_cosine x y =
    let z = times x x in
    let h = times (bits 0x3fe0_0000_0000_0000) z in
    let w = less (bits 0x3ff0_0000_0000_0000) h in
    let beside = less (less (bits 0x3ff0_0000_0000_0000) w) h in
    plus w (plus beside (less (times z (cosine_terms z)) (times x y)))

-- from 0 to a bound. No rounding was seen to reach beyond one; so it is plain that there is a result.
unfoldable pub bounded : Float → Float → Float
bounded most x = if le x most then (if le float_zero x then x else float_zero) else most

-- ---- of each angle
-- the sine, by the eighth of a turn that the angle lies in and how far it is from the nearest quarter: in the first
-- eighth a sine, in the next two a cosine, and so on, and in the second half below 0
unfoldable pub by_octant : ℕ → Float → Float → Float
by_octant o x y =
    let size = bounded (bits 0x3ff0_0000_0000_0000)
    (if nat_lt 1 ((o + 1) % 4) then small_cosine x y else small_sine x y) in
    if nat_lt 3 o then neg size else size

unfoldable pub by_quarters : ℕ → ℕ → Float
by_quarters start q = let x = angle (to_quarter q) in by_octant ((octant q + start) % 8) x.0 x.1

-- the sine of so many eighths of a turn and x, which is 0 or more
unfoldable pub turned : ℕ → Float → Float
turned start x =
    if le x (bits 0x3fe9_21fb_5444_2d18) then by_octant start x (bits 0) else by_quarters start (in_double x)

-- the sine of a negative angle is that of half a turn more than its size
unfoldable pub sine : Float → Float
sine x =
    if float_is_finite x then turned (if lt x float_zero then 4 else 0) (float_with_sign false x) else x

-- a cosine is the sine of a quarter more
unfoldable pub cosine : Float → Float
cosine x = if float_is_finite x then turned 2 (float_with_sign false x) else x
