use Rattle.std.proofs.Common.{arith, ap, ◌∙◌, ◌*◌, ◌^◌, ◌-◌, ◌≡◌, ℕ}
use lib.Ieee.Nearest.{closest}
use native.Mathlib.Nat.{mod-eq_of_lt}
use Rattle.awk_numbers.proofs.Closest.{over, above, large, number_small, shifted_small}
use Rattle.awk_numbers.proofs.fixed.rounded.Goals as goal

pub returns-then-power-le1074-clause-some : goal.returns-then-power-le1074-clause-some
returns-then-power-le1074-clause-some c =
    let d = c.split-digits.result.0 in
    let k = c.split-digits.result.1 in
    let n : c.from.result * c.from-2.result ≡ d * 10 ^ c.args.places =
    λ i. c.from.ensures i * (c.from-2.ensures ∙ c.ten_to.ensures) i in
    c.closest_over.ensures.value ∙ ap (λ (m : ℕ). closest m (2 ^ (1074 - k))) n ∙ over c.args.x d k c.args.places
    c.split-digits.ensures.value c.if-power-le1074.true

pub returns-then-power-le1084-clause-some : goal.returns-then-power-le1084-clause-some
returns-then-power-le1084-clause-some c =
    let d = c.split-digits.result.0 in
    let k = c.split-digits.result.1 in
    let n : c.from.result * c.from-2.result ≡ d * 10 ^ c.args.places =
    λ i. c.from.ensures i * (c.from-2.ensures ∙ c.ten_to.ensures) i in
    let small = number_small d c.args.places (c.from.result * c.from-2.result) c.split-digits.ensures.digits
    c.requires.few n in
    mod-eq_of_lt (shifted_small (c.from.result * c.from-2.result) (k - 1074) small
    (omega (arith, c.if-power-le1084.true)))
    ∙ ap (λ (m : ℕ). m * 2 ^ (k - 1074)) n
    ∙ above c.args.x d k c.args.places c.split-digits.ensures.value (omega (arith, c.if-power-le1074.false))

pub returns-else-power-le1084-clause-none : goal.returns-else-power-le1084-clause-none
returns-else-power-le1084-clause-none c =
    large c.args.x c.split-digits.result.0 c.split-digits.result.1 c.split-digits.ensures.value
    c.split-digits.ensures.leading c.if-power-le1084.false
