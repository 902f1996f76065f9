use Rattle.std.proofs.Common.{◌∙◌, sym, true≢false}
use Rattle.std.proofs.lemmas.Bool.{eq-eqb, eqb-true}
use Rattle.awk_numbers.proofs.Integral.{minus_none, minus_some}
use Rattle.awk_numbers.proofs.shown.has_minus.Goals as goal

pub returns-then-is_empty : goal.returns-then-is_empty
returns-then-is_empty c = minus_none c.args.x c.args.digits.now c.requires (eqb-true _ 0 (sym c.is_empty.ensures
    ∙ c.if-is_empty.true))

pub returns-else-is_empty : goal.returns-else-is_empty
returns-else-is_empty c =
    c.is_negative.ensures ∙ minus_some c.args.x c.args.digits.now c.requires
    (λ z. true≢false (sym (eq-eqb _ 0 z) ∙ sym c.is_empty.ensures ∙ c.if-is_empty.false))
