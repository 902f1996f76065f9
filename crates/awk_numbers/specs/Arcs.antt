-- The angle of a point by one formula: the arc of the ratio of its sizes, by the polynomial of fdlibm's `atan`, from 0
-- or beside the arcs of 1/2 and 1, which is added to a quarter or half of a turn before it is rounded. Each operation
-- is IEEE 754's and is rounded once, and each constant stands as its bits.
use Rattle.std.specs.Prelude.{Bool, false, ◌&&◌, if◌then◌else◌}
use Rattle.std.specs.Float.{Float, float_with_sign, float_zero}
use lib.Ieee.{eq, le, lt, neg}
use Rattle.awk_numbers.specs.Angles.{bounded}
use Rattle.awk_numbers.specs.Formula.{bits, high, less, over, plus, times}

-- ---- the arc of a ratio from 0 to 1
-- so much the arc of t is less than t: t ^ 3 / 3 - t ^ 5 / 5 + ..
unfoldable pub even_terms : Float → Float
even_terms w =
    plus (bits 0x3fd5_5555_5555_550d) (times w (plus (bits 0x3fc2_4924_9200_83ff)
    (times w (plus (bits 0x3fb7_45cd_c54c_206e) (times w (plus (bits 0x3fb1_0d66_a0d0_3d51)
    (times w (plus (bits 0x3fa9_7b4b_2476_0deb) (times w (bits 0x3f90_ad3a_e322_da11))))))))))

unfoldable pub odd_terms : Float → Float
odd_terms w =
    plus (bits 0x3fc9_9999_9998_ebc4) (times w (plus (bits 0x3fbc_71c6_fe23_1671)
    (times w (plus (bits 0x3fb3_b0f2_af74_9a6d) (times w (plus (bits 0x3fad_de2d_52de_fd9a)
    (times w (bits 0x3fa2_b444_2c6a_6c2f))))))))

unfoldable pub arc_terms : Float → Float
arc_terms t =
    let z = times t t in
    let w = times z z in
    times t (less (times z (even_terms w)) (times w (odd_terms w)))

-- the arc of y / x, as half of its digits and what is beside them, t being y / x
unfoldable pub from_nothing : Float → Float → Float → Float × Float
from_nothing y x t =
    let h = high t in
    let k = high x in
    (h, less (over (less (less y (times h k)) (times h (less x k))) x) (arc_terms t))

-- what it is beside a known one, which is l more than its double, t being the ratio beside the known one's
unfoldable pub beside_known : Float → Float → Float
beside_known t l = less t (less (arc_terms t) l)

-- beside that of 1/2 and that of 1
unfoldable pub from_half : Float → Float → Float × Float
from_half y x =
    let t = over (less (times (bits 0x4000_0000_0000_0000) y) x) (plus (times (bits 0x4000_0000_0000_0000) x) y) in
    (bits 0x3fdd_ac67_0561_bb4f, beside_known t (bits 0x3c7a_2b7f_222f_65e2))

unfoldable pub from_one : Float → Float → Float × Float
from_one y x =
    (bits 0x3fe9_21fb_5444_2d18, beside_known (over (less y x) (plus y x)) (bits 0x3c81_a626_3314_5c07))

unfoldable pub by_ratio : Float → Float → Float → Float × Float
by_ratio y x t =
    if lt t (bits 0x3fdc_0000_0000_0000) then from_nothing y x t
    else (if lt t (bits 0x3fe6_0000_0000_0000) then from_half y x else from_one y x)

-- a power of two by which a double is neither too large nor too small for the products
unfoldable pub scale : Float → Float
scale x =
    if lt (bits 0x6570_0000_0000_0000) x then bits 0x1a70_0000_0000_0000
    else (if lt x (bits 0x1a70_0000_0000_0000) then bits 0x6570_0000_0000_0000 else bits 0x3ff0_0000_0000_0000)

-- below 2 ^ -27 the arc is the ratio
unfoldable pub arc : Float → Float → Float × Float
arc y x =
    let t = over y x in
    if lt t (bits 0x3e40_0000_0000_0000) then (t, bits 0) else by_ratio (times y (scale x)) (times x (scale x)) t

-- ---- the angle of a point
-- b and what it leaves, c, and the pair z
unfoldable pub added : Float → Float → Float × Float → Float
added b c z =
    let s = plus b z.0 in
    plus s (plus (plus (less b s) z.0) (plus c z.1))

abbrev pub negative : Float × Float → Float × Float
negative z = (neg z.0, neg z.1)

-- to half a turn and to a quarter
unfoldable pub to_half_turn : Float × Float → Float
to_half_turn z = added (bits 0x4009_21fb_5444_2d18) (bits 0x3ca1_a626_3314_5c07) z

unfoldable pub to_quarter_turn : Float × Float → Float
to_quarter_turn z = added (bits 0x3ff9_21fb_5444_2d18) (bits 0x3c91_a626_3314_5c07) z

-- of a point whose first coordinate has the size x, and is below 0 or not, and whose second one is y, and not below 0
unfoldable pub of_sizes : Float → Float → Bool → Float
of_sizes y x is_below =
    if le y x
    then (let z = arc y x in if is_below then to_half_turn (negative z) else plus z.0 z.1)
    else (let z = arc x y in to_quarter_turn (if is_below then z else negative z))

-- of no direction it is 0
unfoldable pub angle_of : Float → Float → Float
angle_of y x =
    if eq y float_zero && eq x float_zero then float_zero
    else (let size = bounded (bits 0x4009_21fb_5444_2d18)
    (of_sizes (float_with_sign false y) (float_with_sign false x) (lt x float_zero)) in
    if lt y float_zero then neg size else size)
