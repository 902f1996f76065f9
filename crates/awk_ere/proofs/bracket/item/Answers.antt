use Rattle.std.proofs.Common.{sym, ◌∙◌}
use Rattle.awk_ere.proofs.Fronts.{item_class, item_range}
use Rattle.awk_ere.proofs.bracket.item.Goals as goal

pub returns-in-Some-clause-value : goal.returns-in-Some-clause-value
returns-in-Some-clause-value c = item_class c.args.first c.args.text.now _ _ _ _ _ c.in-Some.ensures.value
    c.in_ok-ranges.ensures.value c.add_all.ensures

pub returns-clause-value : goal.returns-clause-value
returns-clause-value c = item_range c.args.first c.args.text.now _ _ _ _ _ _ c.in_default.ensures.value
    (sym c.is_stray.ensures ∙ c.if-is_stray.false) c.in_ok-low.ensures.value c.in_ok-range.ensures.value c.add.ensures
