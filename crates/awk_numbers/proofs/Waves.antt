-- Each number has a sine and a cosine, and each point an angle.
use Rattle.std.proofs.Common.{ℕ, ◌≡◌, ◌+◌, ◌%◌, Bool, true, false, ◌&&◌, T, pos, negsuc, Ok, is_ok, refl, sym, ap}
use Rattle.std.proofs.Common.{true≢false}
use Rattle.std.specs.Bool.{if◌then◌else◌}
use Rattle.std.specs.Prelude.{nat_lt}
use Rattle.std.specs.Float.{Float, binary64, nan, inf, fin, float_zero, float_is_finite, float_with_sign}
use Rattle.std.specs.Result.{result_unwrap_or}
use lib.Ieee.{fits, le, lt, eq, neg, of_bits}
use lib.Ieee.Exact.{HasValue}
use lib.Ieee.Fits.{add-fits, sub-fits, neg-fits}
use Rattle.awk_numbers.specs.declared.number.Number.{Number}
use Rattle.awk_numbers.specs.declared.number.Number.TheVariants.{Whole, Real}
use Rattle.awk_numbers.specs.declared.number.Numbers.TheVariants as profile
use Rattle.awk_numbers.specs.Angles.{bounded, by_octant, by_quarters, cosine, sine, small_cosine, small_sine, turned}
use Rattle.awk_numbers.specs.Arcs.{added, angle_of, arc, negative, of_sizes, to_half_turn, to_quarter_turn}
use Rattle.awk_numbers.specs.Formula.{bits, plus}
use Rattle.awk_numbers.specs.Laws.{Directions, Gives, Waves}
use Rattle.awk_numbers.specs.Numbers.{IsNumber, double_of, settled}
use Rattle.awk_numbers.specs.Quarters.{in_double}
use Rattle.awk_numbers.proofs.Canonical.{settled_number}
use Rattle.awk_numbers.proofs.Drawing.{some}
use Rattle.awk_numbers.proofs.Exact.{positive_value, negative_value}

-- a finite double
abbrev IsFinite : Float → Type 0
IsFinite x = (float_is_finite x ≡ true) × T (fits binary64 x)

gives : (x : Float) → IsFinite x → Gives (settled x)
gives x h =
    let z = result_unwrap_or (settled x) (Whole (pos 0)) in
    let is : settled x ≡ Ok z = sym (some x h.0) in
    (z, is, settled_number x z h.1 is)

-- ---- what is bounded
between : (x most : Float) → float_is_finite most ≡ true → T (le x most) → T (le float_zero x)
    → float_is_finite x ≡ true
unfolding le lt eq float_is_finite
between nan most h s t = absurd s
between (inf true) most h s t = absurd t
between (inf false) nan h s t = absurd s
between (inf false) (inf u) h s t = absurd (true≢false (sym h))
between (inf false) (fin u n k) h s t = absurd s
between (fin s m e) most h k t = refl

zero_finite : IsFinite float_zero
unfolding float_is_finite fits
zero_finite = (refl, tt)

bounded_finite : (most x : Float) → IsFinite most → T (fits binary64 x) → IsFinite (bounded most x)
unfolding bounded
bounded_finite most x h f = go (le x most) (le float_zero x) (between x most h.0)
  where
    go : (p q : Bool) → (T p → T q → float_is_finite x ≡ true)
        → IsFinite (if p then (if q then x else float_zero) else most)
    go true true k = (k tt tt, f)
    go true false k = zero_finite
    go false q k = h

negated : (x : Float) → float_is_finite x ≡ true → float_is_finite (neg x) ≡ true
unfolding neg float_is_finite
negated nan h = h
negated (inf s) h = h
negated (fin s m e) h = refl

signed : (b : Bool) (x : Float) → IsFinite x → IsFinite (if b then neg x else x)
signed false x h = h
signed true x h = (negated x h.0, neg-fits binary64 x h.1)

-- ---- sine and cosine
one_finite : IsFinite (bits 0x3ff0_0000_0000_0000)
unfolding float_is_finite fits of_bits
one_finite = (refl, tt)

either_fits : (b : Bool) (x y : Float) → T (fits binary64 (if b then small_cosine x y else small_sine x y))
unfolding small_cosine small_sine
either_fits true x y = add-fits binary64 _ _
either_fits false x y = sub-fits binary64 _ _

octant_finite : (o : ℕ) (x y : Float) → IsFinite (by_octant o x y)
unfolding by_octant
octant_finite o x y =
    let b = nat_lt 1 ((o + 1) % 4) in
    let size = if b then small_cosine x y else small_sine x y in
    signed (nat_lt 3 o) (bounded (bits 0x3ff0_0000_0000_0000) size)
    (bounded_finite (bits 0x3ff0_0000_0000_0000) size one_finite (either_fits b x y))

turned_finite : (start : ℕ) (x : Float) → IsFinite (turned start x)
unfolding turned by_quarters
turned_finite start x = go (le x (bits 0x3fe9_21fb_5444_2d18))
  where
    go : (b : Bool) → IsFinite (if b then by_octant start x (bits 0) else by_quarters start (in_double x))
    go true = octant_finite start x (bits 0)
    go false = octant_finite _ _ _

-- ---- numbers are finite
of_value : (x : Float) (s : Bool) (a c : ℕ) → HasValue x s a c → float_is_finite x ≡ true
unfolding float_is_finite
of_value nan s a c v = absurd v
of_value (inf u) s a c v = absurd v
of_value (fin u m e) s a c v = refl

of_settled : (x : Float) → settled x ≡ Ok (Real x) → float_is_finite x ≡ true
unfolding float_is_finite
of_settled nan h = absurd (true≢false (sym (ap is_ok h)))
of_settled (inf s) h = absurd (true≢false (sym (ap is_ok h)))
of_settled (fin s m e) h = refl

double_finite : (x : Number) → IsNumber profile.Double x → float_is_finite (double_of x) ≡ true
double_finite (Whole (pos n)) h = of_value _ false n 1 (positive_value n h)
double_finite (Whole (negsuc n)) h = of_value _ true _ 1 (negative_value n h)
double_finite (Real x) h = of_settled x h.1

pub waves : Waves
unfolding sine cosine
waves x h =
    let f = double_finite x h in
    rw f (gives _ (turned_finite _ (float_with_sign false (double_of x))), gives _ (turned_finite 2 _))

-- ---- the angle
pi_finite : IsFinite (bits 0x4009_21fb_5444_2d18)
unfolding float_is_finite fits of_bits
pi_finite = (refl, tt)

sizes_fit : (y x : Float) (is_below : Bool) → T (fits binary64 (of_sizes y x is_below))
unfolding of_sizes to_half_turn to_quarter_turn added
sizes_fit y x is_below = go (le y x) is_below
  where
    go : (p q : Bool) → T (fits binary64 (if p then (if q then to_half_turn (negative (arc y x))
        else plus (arc y x).0 (arc y x).1) else to_quarter_turn (if q then arc x y else negative (arc x y))))
    go true true = add-fits binary64 _ _
    go true false = add-fits binary64 _ _
    go false q = add-fits binary64 _ _

pub directions : Directions
unfolding angle_of
directions y x p q =
    let a = double_of y in
    let b = double_of x in
    let size = of_sizes (float_with_sign false a) (float_with_sign false b) (lt b float_zero) in
    gives (angle_of a b) (go (eq a float_zero && eq b float_zero) (lt a float_zero)
    (bounded (bits 0x4009_21fb_5444_2d18) size)
    (bounded_finite (bits 0x4009_21fb_5444_2d18) size pi_finite (sizes_fit _ _ _)))
  where
    go : (k s : Bool) (w : Float) → IsFinite w → IsFinite (if k then float_zero else (if s then neg w else w))
    go true s w h = zero_finite
    go false s w h = signed s w h
