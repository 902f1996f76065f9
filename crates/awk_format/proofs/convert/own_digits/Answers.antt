use Rattle.std.proofs.Common.{◌<◌, ap, sym, arith, ◌∙◌}
use Rattle.awk_numbers.proofs.Sizes.{text, decimal_text}
use Rattle.awk_format.proofs.convert.own_digits.Goals as goal

pub returns-then-number-eq0 : goal.returns-then-number-eq0
returns-then-number-eq0 c = ap text (sym c.if-number-eq0.true)

pub returns-else-number-eq0 : goal.returns-else-number-eq0
returns-else-number-eq0 c =
    let some : 0 < c.args.number = omega (arith, c.if-number-eq0.false) in
    c.as_bytes.ensures.value ∙ c.format.ensures.text ∙ decimal_text c.args.number some (omega arith)
