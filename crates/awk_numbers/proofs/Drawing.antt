-- What is drawn is 0 or more and below 1, and there is a number nearest to each count of 64 bits.
use Rattle.std.proofs.Common.{ℕ, ◌≡◌, ◌≢◌, ◌*◌, ◌/◌, ◌^◌, ◌<◌, ◌≤◌, Bool, true, false, cond, T}
use Rattle.std.proofs.Common.{ℤ, pos, Result, Ok, refl, sym, ap, subst, arith, true≢false, ltb→lt, eqb→eq}
use Rattle.std.proofs.Common.{Less, Equal, Greater}
use Rattle.std.proofs.lemmas.Float.{lt_irrefl, lt_of_le_of_lt}
use Rattle.std.proofs.lemmas.Nat.{div_below, pow-add, pow_pos, xor_lt}
use Rattle.std.specs.Bool.{if◌then◌else◌}
use Rattle.std.specs.Float.{Float, binary64, nan, inf, fin, float_zero, float_one, float_is_finite}
use Rattle.std.specs.Ordering.{is_lt}
use Rattle.std.specs.Result.{result_unwrap_or}
use lib.Ieee.{up, down, fits, of_int, of_bits, lt, le, eq, mul, round}
use lib.Ieee.Fits.{down_pos, mul-fits, and_l}
use lib.Ieee.Order.{round_mono}
use Rattle.awk_numbers.specs.declared.number.Number.{Number}
use Rattle.awk_numbers.specs.declared.number.Number.TheVariants.{Whole, Real}
use Rattle.awk_numbers.specs.declared.number.Numbers.TheVariants as profile
use Rattle.awk_numbers.specs.declared.number.NumberFault.{NumberFault}
use Rattle.awk_numbers.specs.declared.random.Random.{Random}
use Rattle.awk_numbers.specs.Laws.{IsFraction}
use Rattle.awk_numbers.specs.Numbers.{signed, is_counted, settled}
use Rattle.awk_numbers.specs.Operators.{double_order, order}
use Rattle.awk_numbers.specs.Random.{drawn, fraction, next_state, folded, word}
use Rattle.awk_numbers.proofs.Remainders.{times_unit, high_unit}

-- ---- counts of 64 bits
finite : (x : Float) → T (le float_zero x) → T (le x (fin false 1 (pos 64))) → float_is_finite x ≡ true
unfolding le lt eq float_is_finite
finite nan h k = absurd h
finite (inf true) h k = absurd h
finite (inf false) h k = absurd k
finite (fin s m e) h k = refl

no_less : (a b : ℕ) → 0 < b → T (le float_zero (round binary64 false a b))
unfolding round
no_less a b h = round_mono binary64 0 1 a b (omega arith) h (omega arith)

no_more : (n : ℕ) → n < 2 ^ 64 → T (le (of_int binary64 (pos n)) (fin false 1 (pos 64)))
unfolding of_int round
no_more n h = round_mono binary64 n 1 (2 ^ 64) 1 (omega arith) (omega arith) (omega (arith, h))

abbrev chosen : Bool → Bool → ℕ → Float → Result Number NumberFault
chosen counted s q x = if counted then Ok (Whole (signed s q)) else Ok (Real x)

or_zero : (b s : Bool) (q : ℕ) (x : Float) → Ok (result_unwrap_or (chosen b s q x) (Whole (pos 0))) ≡ chosen b s q x
or_zero true s q x = refl
or_zero false s q x = refl

pub some : (x : Float) → float_is_finite x ≡ true → Ok (result_unwrap_or (settled x) (Whole (pos 0))) ≡ settled x
unfolding float_is_finite
some nan h = absurd (true≢false (sym h))
some (inf s) h = absurd (true≢false (sym h))
some (fin s m e) h = or_zero (is_counted (m * up e) (down e)) s (m * up e / down e) (fin s m e)

pub nearest_is : (n : ℕ) → n < 2 ^ 64 → Ok (result_unwrap_or (settled (of_int binary64 (pos n))) (Whole (pos 0)))
    ≡ settled (of_int binary64 (pos n))
unfolding of_int
nearest_is n h = some (of_int binary64 (pos n)) (finite (of_int binary64 (pos n)) (no_less n 1 (omega arith))
    (no_more n h))

-- ---- what is drawn
few : (state : ℕ) → word state < 2 ^ 64
few state =
    let z = folded (folded (next_state state) 30 0xbf58_476d_1ce4_e5b9) 27 0x94d0_49bb_1331_11eb in
    let small : z < 2 ^ 64 = omega arith in
    xor_lt 64 z (z / 2 ^ 31) small (omega (arith, small))

unit_is : (n : ℕ) → n < 2 ^ 53 → mul binary64 (of_int binary64 (pos n)) (of_bits binary64 0x3ca0_0000_0000_0000)
    ≡ round binary64 false (n * 2 ^ 1021) (2 ^ 1074)
unit_is n h = times_unit n (2 ^ 1021) (of_bits binary64 0x3ca0_0000_0000_0000) false (omega (arith, h))
    (high_unit 1021 0x3ca0_0000_0000_0000 (omega arith) (omega arith) refl)

last_below : T (lt (round binary64 false 0x1f_ffff_ffff_ffff (2 ^ 53)) float_one)
unfolding lt round
last_below = tt

below_one : (n : ℕ) → n < 2 ^ 53 → T (lt (round binary64 false (n * 2 ^ 1021) (2 ^ 1074)) float_one)
below_one n h =
    let power : 2 ^ 1021 * 2 ^ 53 ≡ 2 ^ 1074 = sym (pow-add 2 1021 53) in
    let across : n * 2 ^ 1021 * 2 ^ 53 ≤ 0x1f_ffff_ffff_ffff * 2 ^ 1074 =
    subst (λ (k : ℕ). n * 2 ^ 1021 * 2 ^ 53 ≤ 0x1f_ffff_ffff_ffff * k) power (omega (arith, h)) in
    lt_of_le_of_lt _ (round binary64 false 0x1f_ffff_ffff_ffff (2 ^ 53)) float_one
    (round_mono binary64 (n * 2 ^ 1021) (2 ^ 1074) 0x1f_ffff_ffff_ffff (2 ^ 53) (pow_pos 1074) (omega arith) across)
    last_below

no_whole : (s : Bool) (m : ℕ) (e : ℤ) → T (le float_zero (fin s m e)) → T (lt (fin s m e) float_one)
    → m * up e / down e ≡ 0
unfolding le lt eq
no_whole false m e h k = omega (arith, div_below (m * up e) (down e) 1 (down_pos e) (omega (arith, ltb→lt _ _ k)))
no_whole true m e h k =
    let none : m * up e ≡ 0 = omega (arith, eqb→eq (0 * 1 * down e) (m * up e * 1) (and_l _ _ h)) in
    omega (arith, div_below (m * up e) (down e) 1 (down_pos e) (omega (arith, none, down_pos e)))

signed_zero : (s : Bool) (q : ℕ) → q ≡ 0 → signed s q ≡ pos 0
signed_zero true q h = rw h refl
signed_zero false q h = rw h refl

zero_fraction : IsFraction (Whole (pos 0))
zero_fraction = (omega arith, (λ e. true≢false (sym (ap is_lt e))), refl)

zero_is : of_int binary64 (pos 0) ≡ float_zero
unfolding of_int round
zero_is = refl

one_is : of_int binary64 (pos 1) ≡ float_one
unfolding of_int round
one_is = refl

not_below : (x : Float) → T (le float_zero x) → order (Real x) (Whole (pos 0)) ≢ Less
not_below x h = subst (λ (z : Float). double_order x z ≢ Less) (sym zero_is)
    (go (lt x float_zero) (eq x float_zero) (λ t. lt_irrefl float_zero (lt_of_le_of_lt float_zero x float_zero h t)))
  where
    go : (p q : Bool) → (T p → ⊥) → cond p Less (cond q Equal Greater) ≢ Less
    go true q f e = f tt
    go false true f e = true≢false (sym (ap is_lt e))
    go false false f e = true≢false (sym (ap is_lt e))

below : (x : Float) → T (lt x float_one) → order (Real x) (Whole (pos 1)) ≡ Less
below x h = subst (λ (z : Float). double_order x z ≡ Less) (sym one_is) (go (lt x float_one) (eq x float_one) h)
  where
    go : (p q : Bool) → T p → cond p Less (cond q Equal Greater) ≡ Less
    go true q t = refl
    go false q t = absurd t

fraction_by : (x : Float) → T (fits binary64 x) → T (le float_zero x) → T (lt x float_one)
    → IsFraction (result_unwrap_or (settled x) (Whole (pos 0)))
unfolding le lt eq
fraction_by nan f h k = absurd k
fraction_by (inf true) f h k = absurd h
fraction_by (inf false) f h k = absurd k
fraction_by (fin s m e) f h k = go (is_counted (m * up e) (down e)) refl
  where
    go : (b : Bool) → is_counted (m * up e) (down e) ≡ b
        → IsFraction (result_unwrap_or (chosen b s (m * up e / down e) (fin s m e)) (Whole (pos 0)))
    go true c = subst (λ (n : ℤ). IsFraction (Whole n))
        (sym (signed_zero s (m * up e / down e) (no_whole s m e h k))) zero_fraction
    go false c = ((f, rw c refl), not_below (fin s m e) h, below (fin s m e) k)

pub drawn_fraction : (r : Random) → IsFraction (drawn r)
drawn_fraction r =
    let n = word r.state / 2 ^ 11 in
    let small : n < 2 ^ 53 = omega (arith, few r.state) in
    let is = unit_is n small in
    fraction_by (fraction (word r.state)) (mul-fits binary64 _ _)
    (subst (λ (x : Float). T (le float_zero x)) (sym is) (no_less (n * 2 ^ 1021) (2 ^ 1074) (pow_pos 1074)))
    (subst (λ (x : Float). T (lt x float_one)) (sym is) (below_one n small))
