-- Random numbers by SplitMix64 (Steele, Lea and Flood, "Fast splittable pseudorandom number generators"). A state is
-- one number of 64 bits.
use Rattle.std.specs.Prelude.{ℕ, pos, ◌+◌, ◌*◌, ◌/◌, ◌%◌, ◌^◌, bit_xor, Option, unwrap_or, if◌then◌else◌}
use Rattle.std.specs.Result.{result_unwrap_or}
use Rattle.std.specs.Int.{w64, cast_unsigned}
use Rattle.std.specs.Float.{Float, binary64}
use lib.Ieee.{mul, of_bits, of_int, to_bits, is_nan}
use Rattle.awk_numbers.specs.declared.number.Number.{Number}
use Rattle.awk_numbers.specs.declared.number.Number.TheVariants.{Whole, Real}
use Rattle.awk_numbers.specs.declared.random.Random.{Random}
use Rattle.awk_numbers.specs.Numbers.{settled}

-- z with its bits from the k-th on folded down, times m
abbrev pub folded : ℕ → ℕ → ℕ → ℕ
folded z k m = bit_xor z (z / 2 ^ k) * m % 2 ^ 64

abbrev pub next_state : ℕ → ℕ
next_state state = (state + 0x9e37_79b9_7f4a_7c15) % 2 ^ 64

abbrev pub mixed : ℕ → ℕ
mixed z = bit_xor z (z / 2 ^ 31)

abbrev pub word : ℕ → ℕ
word state = mixed (folded (folded (next_state state) 30 0xbf58_476d_1ce4_e5b9) 27 0x94d0_49bb_1331_11eb)

-- 53 of the bits as a number from 0 to below 1: times 2 ^ -53
abbrev pub fraction : ℕ → Float
fraction bits = mul binary64 (of_int binary64 (pos (bits / 2 ^ 11))) (of_bits binary64 0x3ca0_0000_0000_0000)

-- ---- a sequence of random numbers
-- the state that a number seeds: a whole one modulo 2 ^ 64, of another its 64 bits
abbrev pub state_of : Number → ℕ
state_of (Whole n) = cast_unsigned w64 n
state_of (Real x) = if is_nan x then 0 else to_bits binary64 x

abbrev pub seeded : Number → Number → Random
seeded seed setup = record { seed = seed; state = state_of seed; setup = setup }

-- before any seed: `rand()` goes as after `srand(0)`
abbrev pub first_random : Number → Random
first_random setup = seeded (Whole (pos 0)) setup

-- what `rand()` gives, and what comes behind it
abbrev pub drawn : Random → Number
drawn r = result_unwrap_or (settled (fraction (word r.state))) (Whole (pos 0))

abbrev pub advanced : Random → Random
advanced r = record { seed = r.seed; state = next_state r.state; setup = r.setup }

-- what `srand()` gives, and what comes behind it: without an operand the seed is the setup's
abbrev pub seed_of : Random → Number
seed_of r = r.seed

abbrev pub reseeded : Option Number → Random → Random
reseeded seed r = seeded (unwrap_or seed r.setup) r.setup
