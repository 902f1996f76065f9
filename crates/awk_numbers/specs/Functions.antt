-- The functions of profile double.
use Rattle.std.specs.Prelude.{Result, Err, if◌then◌else◌}
use Rattle.std.specs.Float.{binary64, float_zero, sqrt}
use Rattle.std.specs.Float.Ieee
use Rattle.awk_numbers.specs.declared.number.Number.{Number}
use Rattle.awk_numbers.specs.declared.number.NumberFault.{NumberFault}
use Rattle.awk_numbers.specs.declared.number.NumberFault.TheVariants.{OutOfRange}
use Rattle.awk_numbers.specs.Angles as Angles
use Rattle.awk_numbers.specs.Arcs.{angle_of}
use Rattle.awk_numbers.specs.Formula.{natural_logarithm, natural_power}
use Rattle.awk_numbers.specs.Numbers.{double_of, settled}

-- the square root, rounded once; of a number below 0 it is F1
abbrev pub square_root : Number → Result Number NumberFault
square_root x = settled (sqrt binary64 (double_of x))

-- e to the power x: too large a one is F1
abbrev pub exponential : Number → Result Number NumberFault
exponential x = settled (natural_power (double_of x))

-- the logarithm to the base e: of 0 or less it is F1
abbrev pub logarithm : Number → Result Number NumberFault
logarithm x =
    if Ieee.lt float_zero (double_of x) then settled (natural_logarithm (double_of x)) else Err OutOfRange

-- the sine and the cosine of an angle in radians
abbrev pub sine : Number → Result Number NumberFault
sine x = settled (Angles.sine (double_of x))

abbrev pub cosine : Number → Result Number NumberFault
cosine x = settled (Angles.cosine (double_of x))

-- the angle of the point (x, y) from -pi to pi, in radians: 0 for (0, 0)
abbrev pub arc_tangent : Number → Number → Result Number NumberFault
arc_tangent y x = settled (angle_of (double_of y) (double_of x))
