use Rattle.std.proofs.Common.{◌%◌, take, sym, ap, ◌∙◌, arith}
use Rattle.std.proofs.lemmas.List.Sums.{prefix_len-drop_no}
use Rattle.awk_text.specs.Escapes.{is_octal, octal_value}
use Rattle.awk_text.proofs.Octals.{octal_digits_is}
use Rattle.awk_text.proofs.escape.octal.Goals as goal

pub returns-then-not-is_octal-clause-value : goal.returns-then-not-is_octal-clause-value
returns-then-not-is_octal-clause-value c =
    let most = take c.min.result c.args.text.now in
    let stops = prefix_len-drop_no is_octal most c.loop-i.i 0 c.loop-i-test.true (sym c.is_octal.ensures
    ∙ c.if-not-is_octal.true) in
    c.loop-i.invariant.1 ∙ ap (λ ds. octal_value ds % 256)
    (sym (octal_digits_is c.args.text.now c.min.result c.loop-i.i c.min.ensures
    (omega (arith, c.loop-i.invariant.0, stops))))
