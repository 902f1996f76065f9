use Rattle.std.proofs.Common.{◌≡◌, ℕ, ◌+◌, ◌-◌, ◌*◌, ◌/◌, ◌^◌, ◌<◌, ◌≤◌, List, ap, sym, subst, arith, ◌∙◌}
use lib.Ieee.Nearest.{closest}
use Rattle.awk_numbers.specs.Digits.{rounded}
use Rattle.awk_numbers.specs.Figures.{AreFigures}
use Rattle.awk_numbers.proofs.Room.{few_digits, few_rounded}
use Rattle.awk_numbers.proofs.Sizes.{cut_size, padded_size}
use Rattle.awk_numbers.proofs.texts.whole_digits.Goals as goal

pub returns-then-places-gt0-clause-figures : goal.returns-then-places-gt0-clause-figures
returns-then-places-gt0-clause-figures c =
    let size = c.exact-digits.ensures.value in
    let s = c.exact-digits.result.1 in
    let all' : s ≡ s - 0 = omega arith in
    let is : rounded c.args.x 0 ≡ closest size.0 (10 ^ (s - 0)) = cut_size c.args.x size.0 s 0 size.2 (omega arith) in
    subst (AreFigures c.without_last.result.items) (ap (λ (k : ℕ). closest size.0 (10 ^ k)) all' ∙ sym is)
    (c.without_last.ensures.value size.0 size.1)

pub returns-then-places-gt0-clause-few : goal.returns-then-places-gt0-clause-few
returns-then-places-gt0-clause-few c =
    let size = c.exact-digits.ensures.value in
    few_rounded c.without_last.result.items size.0 c.exact-digits.result.1
    (c.without_last.ensures.value size.0 size.1) (c.exact-digits.ensures.most size.0 size.1)

pub returns-else-places-gt0-clause-figures : goal.returns-else-places-gt0-clause-figures
returns-else-places-gt0-clause-figures c =
    let size = c.exact-digits.ensures.value in
    let none : c.exact-digits.result.1 ≡ 0 = omega (arith, c.if-places-gt0.false) in
    subst (AreFigures c.exact-digits.result.0.items)
    (sym (padded_size c.args.x size.0 c.exact-digits.result.1 0 size.2 (omega (arith, none))
    ∙ ap (λ (k : ℕ). size.0 * 10 ^ (0 - k)) none ∙ omega arith)) size.1

pub returns-else-places-gt0-clause-few : goal.returns-else-places-gt0-clause-few
returns-else-places-gt0-clause-few c =
    let size = c.exact-digits.ensures.value in
    let none : c.exact-digits.result.1 ≡ 0 = omega (arith, c.if-places-gt0.false) in
    few_digits c.exact-digits.result.0.items size.0 size.1
    (subst (λ (k : ℕ). size.0 < 10 ^ (309 + k)) none (c.exact-digits.ensures.most size.0 size.1))
