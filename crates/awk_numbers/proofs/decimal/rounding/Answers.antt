use Rattle.std.proofs.Common.{◌≡◌, ℕ, ◌+◌, ◌-◌, ◌/◌, ◌%◌, ◌^◌, get_or, refl, ap, sym, subst, arith, ◌∙◌}
use lib.Ieee.Nearest.{closest}
use Rattle.awk_numbers.proofs.Figures.{goes_down, goes_up, passes_half, ties}
use Rattle.awk_numbers.proofs.decimal.rounding.Goals as goal

abbrev Adds : ℕ → ℕ → ℕ → Type 0
Adds n added count = closest n (10 ^ count) ≡ n / 10 ^ count + added

counted : (n added count p : ℕ) → p + 1 ≡ count → Adds n added (p + 1) → Adds n added count
counted n added count p e h = subst (Adds n added) e h

pub returns-then-first-lt5-clause-value : goal.returns-then-first-lt5-clause-value
returns-then-first-lt5-clause-value c = λ n are. counted n 0 c.args.count (c.args.count - 1)
    (omega (arith, c.requires.some)) (goes_down c.args.digits.now (c.args.count - 1) c.requires.figures n are
    (omega (arith, c.digit_at-first.ensures, c.if-first-lt5.true)) ∙ omega arith)

pub returns-then-first-gt5-clause-value : goal.returns-then-first-gt5-clause-value
returns-then-first-gt5-clause-value c = λ n are. counted n 1 c.args.count (c.args.count - 1)
    (omega (arith, c.requires.some)) (goes_up c.args.digits.now (c.args.count - 1) c.requires.figures n are
    (omega (arith, c.digit_at-first.ensures, c.if-first-gt5.true)))

pub returns-then-ends_in_zeros-clause-value : goal.returns-then-ends_in_zeros-clause-value
returns-then-ends_in_zeros-clause-value c = λ n are. (
    let p = c.args.count - 1 in
    let xs = c.args.digits.now in
    let all' : p + 1 ≡ c.args.count = omega (arith, c.requires.some) in
    let here : get_or xs (p + 1) 0 % 2 ≡ c.from.result =
    ap (λ (t : ℕ). get_or xs t 0 % 2) all' ∙ ap (λ (t : ℕ). t % 2) (sym c.digit_at-last.ensures)
    ∙ sym c.from.ensures in
    counted n c.from.result c.args.count p all' (ties xs p c.requires.figures n are
    (omega (arith, c.digit_at-first.ensures, c.if-first-lt5.false, c.if-first-gt5.false))
    (c.if-ends_in_zeros.ensures.yes refl) ∙ ap (λ (t : ℕ). n / 10 ^ (p + 1) + t) here))

pub returns-else-ends_in_zeros-clause-value : goal.returns-else-ends_in_zeros-clause-value
returns-else-ends_in_zeros-clause-value c = λ n are. counted n 1 c.args.count (c.args.count - 1)
    (omega (arith, c.requires.some)) (passes_half c.args.digits.now (c.args.count - 1) c.requires.figures n are
    (omega (arith, c.digit_at-first.ensures, c.if-first-lt5.false, c.if-first-gt5.false))
    (c.if-ends_in_zeros.ensures.no refl))
