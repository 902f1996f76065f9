use Rattle.std.proofs.Common.{◌≡◌, ◌+◌, ◌++◌, List, ℕ, map, reverse, ap, sym, ◌∙◌}
use Rattle.std.proofs.lemmas.Bool.{eqb-false, eqb-true}
use Rattle.awk_numbers.proofs.WholeTexts.{none_text, some_text}
use Rattle.awk_numbers.proofs.texts.write_size.Goals as goal

pub returns-then-is_empty-clause-value : goal.returns-then-is_empty-clause-value
returns-then-is_empty-clause-value c =
    none_text c.args.x c.whole_digits-digits.result.items c.clear.new.self.items c.push.new.self.items
    c.whole_digits-digits.ensures.figures
    (eqb-true _ _ (sym c.is_empty.ensures ∙ c.if-is_empty.true)) c.clear.ensures c.push.ensures.items

pub returns-else-is_empty-clause-value : goal.returns-else-is_empty-clause-value
returns-else-is_empty-clause-value c =
    some_text c.args.x c.whole_digits-digits.result.items c.clear.new.self.items c.push_digits.new.out.items
    c.whole_digits-digits.ensures.figures
    (eqb-false _ _ (sym c.is_empty.ensures ∙ c.if-is_empty.false)) c.clear.ensures
    (c.push_digits.ensures ∙ ap (λ (t : List ℕ). c.clear.new.self.items ++ map (λ (d : ℕ). 48 + d) (reverse t))
    c.as_slice.ensures.value)
