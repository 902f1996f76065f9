use Rattle.std.proofs.Common.{◌^◌, ◌-◌, ◌*◌, ℕ, List, length, ap, sym, subst, arith, ◌∙◌}
use lib.Ieee.Nearest.{closest}
use Rattle.awk_numbers.specs.Figures.{AreFigures}
use Rattle.awk_numbers.proofs.Sizes.{text}
use Rattle.awk_numbers.proofs.Significant.{cut_part, raised_part}
use Rattle.awk_numbers.proofs.Room.{if_ok}
use Rattle.awk_numbers.proofs.decimal.significant_text.Goals as goal

pub returns-then-count-length : goal.returns-then-count-length
returns-then-count-length c = if_ok c.cut_text.result _ _ (λ made is n are. (
    let same = ap (λ (l : ℕ). l - c.args.count) c.len-length.ensures.value in
    is n are
    ∙ ap (λ (k : ℕ). text (closest n (10 ^ k))) same
    ∙ ap text (cut_part n c.args.count (length c.args.digits.now.items)
    (omega (arith, c.if-count-length.true, c.len-length.ensures.value)))))
    c.cut_text.ensures

pub returns : goal.returns
returns c = if_ok c.raised_text.result _ _ (λ made is n are. (
    let same = ap (λ (l : ℕ). c.args.count - l) c.len-length.ensures.value in
    is n (subst (λ (xs : List ℕ). AreFigures xs n) (sym c.as_slice.ensures.value) are)
    ∙ ap (λ (k : ℕ). text (n * 10 ^ k)) same
    ∙ ap text (raised_part n c.args.count (length c.args.digits.now.items)
    (omega (arith, c.if-count-length.false, c.len-length.ensures.value)))))
    c.raised_text.ensures
