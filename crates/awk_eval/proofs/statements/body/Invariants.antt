use Rattle.std.proofs.Common.{◌∷◌, drop, map}
use Rattle.awk_program.specs.View.{view_statement}
use Rattle.awk_machine.specs.Pieces.{Do, Each}
use Rattle.awk_store.specs.Wholes.{names_in}
use Rattle.awk_forms.specs.Along.{Along}
use Rattle.awk_eval.proofs.statements.body.Given as goal

abbrev pub invariant-loop-x : goal.invariant-loop-x
invariant-loop-x g l = Along g.W.World l.cx (λ m. Do (Each (map (view_statement (names_in m)) l.xs)))
    (λ m k. Do (Each (map (view_statement (names_in m)) (drop l.x-index l.xs))) ∷ k) (l.fn.run.store, l.fn.run.streams)
    l.fn.world (l.run.store, l.run.streams) l.world
