use Rattle.std.proofs.Common.{ap}
use Rattle.awk_program.proofs.Views.{view-Read}
use Rattle.awk_program.specs.Program as p
use Rattle.awk_builtins.proofs.at_hand.growth.reads_variable.Goals as goal

pub returns-in-Read : goal.returns-in-Read
returns-in-Read c = λ e names. rw (c.in-Read.is, view-Read) (ap (λ r. p.read r) (c.is_variable.ensures e names))
