use Rattle.awk_numbers.proofs.Closest.{vanishes}
use Rattle.awk_numbers.proofs.fixed.closest_over.Goals as goal

pub returns-then-shift-gt118 : goal.returns-then-shift-gt118
returns-then-shift-gt118 c = record { value = vanishes c.args.n c.args.shift c.requires c.if-shift-gt118.true }
