-- A power of doubles by one formula, which follows fdlibm's `__ieee754_pow`: the logarithm to the base 2 in two
-- doubles, times the power, and 2 to that. Each operation is IEEE 754's and is rounded once, and each constant stands
-- as its bits. Of two doubles that stand for one number the first has half of the digits, so that products of such are
-- exact.
use Rattle.std.specs.Prelude.{ℕ, ◌+◌, ◌-◌, ◌*◌, ◌/◌, ◌%◌, ◌^◌, nat_lt, if◌then◌else◌}
use Rattle.std.specs.Float.{Float, binary64, sqrt}
use lib.Ieee.{of_bits, to_bits, is_nan, eq, lt, add, sub, mul, div}

abbrev pub plus : Float → Float → Float
plus x y = add binary64 x y

abbrev pub less : Float → Float → Float
less x y = sub binary64 x y

abbrev pub times : Float → Float → Float
times x y = mul binary64 x y

abbrev pub over : Float → Float → Float
over x y = div binary64 x y

abbrev pub bits : ℕ → Float
bits n = of_bits binary64 n

-- the first half of the digits: the factor is 2 ^ 27 + 1
unfoldable pub high : Float → Float
high x = less (times x (bits 0x41a0_0000_0200_0000)) (less (times x (bits 0x41a0_0000_0200_0000)) x)

-- ---- the logarithm of x = m * 2 ^ k
-- m, from 1 to below 2, and k: 2 ^ 52 + 1023 is taken off
unfoldable pub significand : Float → Float
significand x = if is_nan x then x else bits (0x3ff0_0000_0000_0000 + to_bits binary64 x % 2 ^ 52)

unfoldable pub exponent : Float → Float
exponent x =
    if is_nan x then x
    else less (bits (0x4330_0000_0000_0000 + to_bits binary64 x / 2 ^ 52 % 2048)) (bits 0x4330_0000_0000_03ff)

-- with s = (m - b) / (m + b) the logarithm of m / b is 2 * (s + s ^ 3 / 3 + s ^ 5 / 5 + ..): 1.5 times the terms from
-- s ^ 5 on, over s, where this is given s ^ 2
unfoldable pub series : Float → Float
series z =
    times (times z z) (plus (bits 0x3fe3_3333_3333_3303) (times z (plus (bits 0x3fdb_6db6_db6f_abff)
    (times z (plus (bits 0x3fd5_5555_518f_264d) (times z (plus (bits 0x3fd1_7460_a91d_4101)
    (times z (plus (bits 0x3fcd_864a_93c9_db65) (times z (bits 0x3fca_7e28_4a45_4eef)))))))))))

-- what (m - b) / (m + b) is beside h, where v is 1 / (m + b)
unfoldable pub beside : Float → Float → Float → Float → Float
beside m b v h =
    times v (less (less (less m b) (times h (high (plus m b)))) (times h (less m (less (high (plus m b)) b))))

-- the terms behind 3 + h ^ 2, where s is h + l
unfoldable pub terms : Float → Float → Float → Float
terms s h l = plus (series (times s s)) (times l (plus h s))

unfoldable pub sum_high : Float → Float → Float
sum_high h r = high (plus (plus (bits 0x4008_0000_0000_0000) (times h h)) r)

unfoldable pub sum_low : Float → Float → Float → Float
sum_low h r t = less r (less (less t (bits 0x4008_0000_0000_0000)) (times h h))

-- h * t and what is beside it, as one and as two
unfoldable pub product_low : Float → Float → Float → Float → Float
product_low s l t u = plus (times l t) (times u s)

unfoldable pub product_high : Float → Float → Float → Float
product_high h t v = high (plus (times h t) v)

-- times 2 / (3 * ln 2), and the logarithm of b
unfoldable pub scaled_low : Float → Float → Float → Float
scaled_low p q e =
    plus (less (times q (bits 0x3fee_c709_dc3a_03fd)) (times (bits 0x3e3e_2fe0_145b_01f5) p)) e

unfoldable pub whole_high : Float → Float → Float → Float → Float
whole_high y z d k = high (plus (plus (plus y z) d) k)

unfoldable pub whole_low : Float → Float → Float → Float → Float → Float
whole_low y z d k t = less z (less (less (less t k) d) y)

-- the sum of all, p + q being 3 / 2 times the logarithm of m / b to the base e, and d + e that of b to the base 2
unfoldable pub gathered : Float → Float → Float → Float → Float → Float × Float
gathered p q d e k =
    let y = times (bits 0x3fee_c709_e000_0000) p in
    let z = scaled_low p q e in
    let t = whole_high y z d k in
    (t, whole_low y z d k t)

-- from s = h + l
unfoldable pub from_ratio : Float → Float → Float → Float → Float → Float → Float × Float
from_ratio s h l d e k =
    let r = terms s h l in
    let t = sum_high h r in
    let v = product_low s l t (sum_low h r t) in
    let p = product_high h t v in
    gathered p (less v (less p (times h t))) d e k

unfoldable pub near : Float → Float → Float → Float → Float → Float × Float
near m b d e k =
    let v = over (bits 0x3ff0_0000_0000_0000) (plus m b) in
    let s = times (less m b) v in
    let h = high s in
    from_ratio s h (beside m b v h) d e k

-- b is 1 up to the root of 1.5, 1.5 up to the root of 3, and 2 from there on
unfoldable pub by_interval : Float → Float → Float × Float
by_interval m k =
    if lt m (bits 0x3ff3_988e_1409_212e) then near m (bits 0x3ff0_0000_0000_0000) (bits 0) (bits 0) k
    else (if lt m (bits 0x3ffb_b67a_e858_4caa)
    then near m (bits 0x3ff8_0000_0000_0000) (bits 0x3fe2_b803_4000_0000) (bits 0x3e4c_fdeb_43cf_d006) k
    else near (times m (bits 0x3fe0_0000_0000_0000)) (bits 0x3ff0_0000_0000_0000) (bits 0) (bits 0)
    (plus k (bits 0x3ff0_0000_0000_0000)))

-- a size below 2 ^ -1022 is taken times 2 ^ 54
unfoldable pub logarithm : Float → Float × Float
logarithm x =
    if lt x (bits 0x0010_0000_0000_0000)
    then by_interval (significand (times x (bits 0x4350_0000_0000_0000)))
    (less (exponent (times x (bits 0x4350_0000_0000_0000))) (bits 0x404b_0000_0000_0000))
    else by_interval (significand x) (exponent x)

-- ---- 2 to the power of two doubles
-- z - z ^ 2 / 6 + z ^ 4 / 360 - ..
unfoldable pub fitted : Float → Float
fitted z =
    let q = times z z in
    less z (times q (less (bits 0x3fc5_5555_5555_553e) (times q (less (bits 0x3f66_c16c_16be_bd93)
    (times q (less (bits 0x3f11_566a_af25_de2c) (times q (less (bits 0x3ebb_bd41_c5d2_6bf1)
    (times q (bits 0x3e66_3769_72be_a4d0))))))))))

-- e ^ z - 1 - z
unfoldable pub beyond_line : Float → Float
beyond_line z = over (times z (fitted z)) (less (bits 0x4000_0000_0000_0000) (fitted z))

-- e to the power u + v, of which 1 and the part h of u are added last: h has no digits beyond 2 ^ -20
unfoldable pub grown : Float → Float → Float
grown u v =
    let z = plus u v in
    let h = less (plus z (bits 0x41f8_0000_0000_0000)) (bits 0x41f8_0000_0000_0000) in
    let r = plus (beyond_line z) (times z (less v (less z u))) in
    plus (plus (bits 0x3ff0_0000_0000_0000) h) (plus (plus (less u h) v) r)

-- 2 to the power p + q, which is about -.5 to .5
unfoldable pub small_power : Float → Float → Float
small_power p q =
    let t = high (plus q p) in
    grown (times t (bits 0x3fe6_2e43_0000_0000))
    (less (times (less q (less t p)) (bits 0x3fe6_2e42_fefa_39ef)) (times t (bits 0x3e20_5c61_0ca8_6c39)))

-- 2 ^ (n - 1023)
abbrev pub unit : ℕ → Float
unit n = bits (n * 2 ^ 52)

-- times 2 ^ (n - 2048), in two steps, since one may be beyond a double
unfoldable pub shifted : Float → ℕ → Float
shifted x n =
    if nat_lt n 4 then bits 0
    else (if nat_lt 4092 n then bits 0x7ff0_0000_0000_0000
    else times (times x (unit (n / 2 - 1))) (unit (n - n / 2 - 1)))

-- 1.5 * 2 ^ 52 more than a number of a size below 2 ^ 51 is a double that has no fraction, and whose bits count
unfoldable pub unscaled : Float → ℕ
unscaled t = to_bits binary64 t - 0x4337_ffff_ffff_f800

-- 2 to the power p + q: 0 below 2 ^ -1100
unfoldable pub two_power : Float → Float → Float
two_power p q =
    let z = plus q p in
    let t = plus z (bits 0x4338_0000_0000_0000) in
    if is_nan t then t
    else (if lt z (bits 0xc091_3000_0000_0000) then bits 0
    else shifted (small_power (less p (less t (bits 0x4338_0000_0000_0000))) q) (unscaled t))

-- ---- all
-- beyond 2 ^ 64 a power is too large or too small, if it isn't one of 1
unfoldable pub within : Float → Float
within y =
    if lt (bits 0x43f0_0000_0000_0000) y then bits 0x43f0_0000_0000_0000
    else (if lt y (bits 0xc3f0_0000_0000_0000) then bits 0xc3f0_0000_0000_0000 else y)

unfoldable pub times_power : Float → Float → Float → Float
times_power y t u = two_power (times (high y) t) (plus (times (less y (high y)) t) (times y u))

unfoldable pub by_logarithm : Float → Float → Float
by_logarithm x y = let t = logarithm x in times_power (within y) t.0 t.1

-- x to the power y, x being more than 0: a square and a root are rounded once
unfoldable pub power : Float → Float → Float
power x y =
    if eq y (bits 0x4000_0000_0000_0000) then times x x
    else (if eq y (bits 0x3fe0_0000_0000_0000) then sqrt binary64 x else by_logarithm x y)

-- ---- to the base e
-- the logarithm of e to the base 2 as two doubles
unfoldable pub natural_power : Float → Float
natural_power x = times_power (within x) (bits 0x3ff7_1547_6000_0000) (bits 0x3e54_ae0b_f85d_df44)

-- of x, which is more than 0: times that of 2 to the base e
unfoldable pub natural_logarithm : Float → Float
natural_logarithm x =
    let t = logarithm x in
    plus (times t.0 (bits 0x3fe6_2e43_0000_0000))
    (less (times t.1 (bits 0x3fe6_2e42_fefa_39ef)) (times t.0 (bits 0x3e20_5c61_0ca8_6c39)))
