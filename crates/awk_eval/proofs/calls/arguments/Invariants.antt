use Rattle.awk_program.specs.View.{view_arguments}
use Rattle.awk_store.specs.Wholes.{names_in}
use Rattle.awk_forms.specs.Along.{Arguing}
use Rattle.awk_eval.proofs.calls.arguments.Given as goal

abbrev pub invariant-loop-x : goal.invariant-loop-x
invariant-loop-x g l = Arguing g.W.World l.cx (λ m. view_arguments (names_in m) l.xs) l.values l.x-index
    (l.fn.run.store, l.fn.run.streams) l.fn.world (l.run.store, l.run.streams) l.world
