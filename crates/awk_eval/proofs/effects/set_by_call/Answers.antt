use Rattle.awk_program.proofs.Views.{view-Assign}
use Rattle.std.proofs.Common.{refl}
use Rattle.awk_eval.proofs.effects.set_by_call.Goals as goal

pub returns-in-Call : goal.returns-in-Call
returns-in-Call c = λ names. rw (c.in-Assign.is, view-Assign, c.in-Variable.is, c.get-in-Call.ensures) refl
