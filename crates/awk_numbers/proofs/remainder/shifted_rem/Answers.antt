use Rattle.std.proofs.Common.{◌≡◌, ◌*◌, ◌%◌, ◌^◌, ap, arith, mod-lt, ◌∙◌}
use native.Mathlib.Nat.{mod-eq_of_lt}
use Rattle.awk_numbers.proofs.Remainders.{step, last, holds}
use Rattle.awk_numbers.proofs.remainder.shifted_rem.Goals as goal

pub steps-preserved : goal.steps-preserved
steps-preserved c = (
  step c.args.n c.args.divisor c.steps._turn c.steps.left c.steps.invariant.0,
  mod-lt (c.steps.left * 2048) c.requires.positive,
)

pub returns : goal.returns
returns c =
    let k = c.args.shift % 11 in
    ap (λ (n : Rattle.std.proofs.Common.ℕ). n % c.args.divisor) (mod-eq_of_lt (holds c.steps.left k
    (omega (arith, c.steps.invariant.1, c.requires.small)) (omega arith)))
    ∙ last c.args.n c.args.divisor c.args.shift c.steps.left (c.steps.invariant.0
    ∙ ap (λ (n : Rattle.std.proofs.Common.ℕ). c.args.n * 2 ^ (11 * n) % c.args.divisor) (omega arith))
