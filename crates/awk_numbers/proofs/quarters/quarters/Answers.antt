use Rattle.std.proofs.Common.{◌∙◌, ap, ℕ, ◌*◌, ◌/◌, ◌%◌, ◌^◌}
use Rattle.awk_numbers.specs.Quarters.{quarters, two_over_pi}
use Rattle.awk_numbers.proofs.Turns.{quarters_is}
use Rattle.awk_numbers.proofs.quarters.quarters.Goals as goal

pub returns : goal.returns
unfolding quarters
returns c =
    quarters_is c.from-m.result c.args.k c.from.result c.from-2.result c.from-3.result (c.from.ensures ∙ c.word.ensures)
    (c.from-2.ensures ∙ c.word-2.ensures) (c.from-3.ensures ∙ c.word-3.ensures)
    ∙ ap (λ (m : ℕ). m * (two_over_pi / 2 ^ c.args.k) / 2 ^ 64 % 2 ^ 128) c.from-m.ensures
