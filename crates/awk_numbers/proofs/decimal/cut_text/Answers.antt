use Rattle.std.proofs.Common.{◌+◌, ◌^◌, ℕ, map, reverse, ap, sym, ◌∙◌}
use lib.Ieee.Nearest.{closest}
use Rattle.awk_numbers.proofs.Figures.{are_digits}
use Rattle.awk_numbers.proofs.Room.{if_ok}
use Rattle.awk_numbers.proofs.decimal.cut_text.Goals as goal

pub returns : goal.returns
returns c = if_ok c.text_of.result _ _ (λ text is n are. (
    let q = closest n (10 ^ c.args.count) in
    is ∙ ap (map (λ (d : ℕ). 48 + d)) (ap reverse c.as_slice.ensures.value
    ∙ sym (are_digits c.without_last-kept.result.items q (c.without_last-kept.ensures.value n are))))) c.text_of.ensures
