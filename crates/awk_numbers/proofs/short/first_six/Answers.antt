use Rattle.std.proofs.Common.{◌≡◌, ℕ, List, ◌+◌, ◌-◌, ◌*◌, ◌/◌, ◌^◌, length, ap, sym, arith, ◌∙◌}
use Rattle.awk_numbers.specs.Figures.{below}
use Rattle.awk_numbers.proofs.Figures.{cut}
use Rattle.awk_numbers.proofs.Significant.{cut_part, raised_part}
use Rattle.awk_numbers.proofs.short.first_six.Goals as goal

pub returns-then-length-gt6 : goal.returns-then-length-gt6
returns-then-length-gt6 c = λ n are. (
    let xs = c.args.digits.now in
    let l = length xs in
    let first : c.number_of.result ≡ n / 10 ^ (l - 6) =
    c.number_of.ensures.value ∙ ap (λ (ys : List ℕ). below ys (length ys)) c.before_last.ensures
    ∙ (cut xs n (l - 6) are).0.value in
    ap (λ (k : ℕ). k + c.rounding.result) first ∙ sym (c.rounding.ensures.value n are)
    ∙ cut_part n 6 l (omega (arith, c.if-length-gt6.true)))

pub returns-else-length-gt6 : goal.returns-else-length-gt6
returns-else-length-gt6 c = λ n are. (
    let l = length c.args.digits.now in
    (λ i. (c.number_of-else-length-gt6.ensures.value ∙ are.value) i * c.ten_to.ensures i)
    ∙ raised_part n 6 l (omega (arith, c.if-length-gt6.false)))
