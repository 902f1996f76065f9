use Rattle.std.proofs.Common.{◌∙◌}
use Rattle.awk_numbers.specs.Quarters.{two_over_pi}
use Rattle.awk_numbers.proofs.Turns.{word_is}
use Rattle.awk_numbers.proofs.quarters.word.Goals as goal

pub returns : goal.returns
returns c = word_is two_over_pi c.args.k c.from.result c.from-2.result (c.from.ensures ∙ c.digit.ensures)
    (c.from-2.ensures ∙ c.digit-2.ensures)
