use Rattle.std.proofs.Common.{◌≡◌, true, get_or, arith}
use Rattle.std.proofs.lemmas.List.Sums.{prefix_len-drop_yes}
use Rattle.std.specs.Char.{is_ascii_digit}
use Rattle.awk_text.proofs.Numbers.{digits_step}
use Rattle.awk_text.proofs.numeral.leading_digits.Goals as goal

pub loop-i-preserved : goal.loop-i-preserved
loop-i-preserved c =
    let text = c.args.text.now in
    let digit : is_ascii_digit (get_or text c.loop-i.i 0) ≡ true = cc in
    let further = prefix_len-drop_yes is_ascii_digit text c.loop-i.i 0 c.loop-i-test.true digit in (
      omega (arith, c.loop-i.invariant.0, further),
      omega (arith, digits_step text c.loop-i.i c.loop-i.value c.loop-i-test.true digit c.loop-i.invariant.1),
    )
