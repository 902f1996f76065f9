use Rattle.std.proofs.Common.{sym, ◌∙◌}
use borrow.Author.Tests.{eqb-true, eqb-false}
use Rattle.awk_numbers.proofs.Sizes.{raised_none, raised_some}
use Rattle.awk_numbers.proofs.decimal.raised_text.Goals as goal

pub returns-then-is_empty : goal.returns-then-is_empty
returns-then-is_empty c = λ n are. raised_none c.args.digits.now c.in_ok-text.text.items n c.args.power
    c.in_ok-text.ensures (sym c.in_ok-text.text.ok.0 ∙ eqb-true _ _ (sym c.is_empty.ensures ∙ c.if-is_empty.true)) are

pub returns : goal.returns
returns c = λ n are. raised_some c.args.digits.now c.in_ok-text.text.items c.push_zeros.new.text.items n c.args.power
    c.in_ok-text.ensures (λ h. eqb-false _ _ (sym c.is_empty.ensures ∙ c.if-is_empty.false)
    (c.in_ok-text.text.ok.0 ∙ h)) c.in_ok-push_zeros.ensures are
