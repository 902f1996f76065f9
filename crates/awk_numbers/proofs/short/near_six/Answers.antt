use Rattle.std.proofs.Common.{◌≡◌, ◌-◌, ◌*◌, ◌/◌, ◌^◌, ◌≤◌, ℕ, refl, ap, subst, arith, ◌∙◌}
use lib.Ieee.Nearest.{closest}
use Rattle.awk_numbers.specs.Digits.{Splits}
use Rattle.awk_numbers.proofs.SixDigits.{bounds_from, near_are, rounded_small, whole_small}
use Rattle.awk_numbers.proofs.short.near_six.Goals as goal

pub overflow_cast-whole-2 : goal.overflow_cast-whole-2
overflow_cast-whole-2 c = record {
  fits = whole_small c.split-number.result.0 (1074 - c.split-number.result.1) c.from.result c.from.ensures
      c.split-number.ensures.digits (omega (arith, c.if-power-gt1041.false));
}

pub overflow_cast-rounded : goal.overflow_cast-rounded
overflow_cast-rounded c =
    let n = c.split-number.result.0 in
    let s = 1074 - c.split-number.result.1 in
    let p = c.in_ok-places.places in
    let whole : c.from.result * 10 ^ 9 / 2 ^ s ≡ n * 10 ^ 9 / 2 ^ s =
    ap (λ (k : ℕ). k * 10 ^ 9 / 2 ^ s) c.from.ensures in
    let bounds = bounds_from n s p _ whole c.in_ok-places.ensures.few c.in_ok-places.ensures.least
    c.in_ok-places.ensures.most in
    let raised : c.from-2.result * c.from-3.result ≡ n * 10 ^ p =
    λ i. c.from-2.ensures i * (c.from-3.ensures ∙ c.ten_to.ensures) i in
    let is : c.closest_over-rounded.result ≡ closest (n * 10 ^ p) (2 ^ s) =
    c.closest_over-rounded.ensures.value ∙ ap (λ (k : ℕ). closest k (2 ^ s)) raised in
    record { fits = omega (arith, rounded_small n s p c.closest_over-rounded.result is bounds.1) }

pub returns : goal.returns
returns c =
    let n = c.split-number.result.0 in
    let power = c.split-number.result.1 in
    let s = 1074 - power in
    let p = c.in_ok-places.places in
    let whole : c.from.result * 10 ^ 9 / 2 ^ s ≡ n * 10 ^ 9 / 2 ^ s =
    ap (λ (k : ℕ). k * 10 ^ 9 / 2 ^ s) c.from.ensures in
    let bounds = bounds_from n s p _ whole c.in_ok-places.ensures.few c.in_ok-places.ensures.least
    c.in_ok-places.ensures.most in
    let raised : c.from-2.result * c.from-3.result ≡ n * 10 ^ p =
    λ i. c.from-2.ensures i * (c.from-3.ensures ∙ c.ten_to.ensures) i in
    let is : c.closest_over-rounded.result ≡ closest (n * 10 ^ p) (2 ^ s) =
    c.closest_over-rounded.ensures.value ∙ ap (λ (k : ℕ). closest k (2 ^ s)) raised in
    let back : power ≡ 1074 - s = omega (arith, c.if-power-gt1041.false) in
    let parts = subst (λ (k : ℕ). Splits c.args.x (n * 2 ^ k)) back c.split-number.ensures.value in
    let long : p ≤ s = omega (arith, c.if-power-gt1041.false, c.in_ok-places.ensures.few) in
    near_are c.args.x n s p c.closest_over-rounded.result parts (omega arith) c.split-number.ensures.digits bounds.0
    bounds.1 is (1080 - p) _ _ long refl c.carried.ensures.raised c.carried.ensures.kept
