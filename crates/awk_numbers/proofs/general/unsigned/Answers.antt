use Rattle.std.proofs.Common.{◌≡◌, List, ℕ, IfOk, subst, sym, ◌∙◌}
use Rattle.awk_numbers.proofs.Styles.{as_plain, as_scientific}
use Rattle.awk_numbers.proofs.general.unsigned.Goals as goal

pub returns-then-is_plain : goal.returns-then-is_plain
returns-then-is_plain c =
    subst (λ (t : List ℕ). IfOk c.plain.result (λ made. made.items ≡ t))
    (as_plain c.args.letter c.args.x c.args.count c.in_ok-own.place c.in_ok-own.ensures.place
    (sym c.is_plain.ensures ∙ c.if-is_plain.true)) c.plain.ensures

pub returns : goal.returns
returns c =
    subst (λ (t : List ℕ). IfOk c.with_exponent.result (λ made. made.items ≡ t))
    (as_scientific c.args.letter c.args.x c.args.count c.in_ok-own.place c.deref.result.now c.in_ok-own.ensures.place
    (sym c.is_plain.ensures ∙ c.if-is_plain.false) (c.deref.ensures.value ∙ c.in_ok-own.ensures.digits))
    c.with_exponent.ensures
