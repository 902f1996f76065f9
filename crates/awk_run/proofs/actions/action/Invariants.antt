use Rattle.std.proofs.Common.{List, ◌∷◌, ◌++◌, drop, map}
use Rattle.awk_program.specs.Program.{Statement}
use Rattle.awk_program.specs.View.{view_statement}
use Rattle.awk_machine.specs.Pieces.{Do, Each}
use Rattle.awk_machine.specs.State.{Given}
use Rattle.awk_store.specs.Wholes.{names_in}
use Rattle.awk_forms.specs.Along.{Along}
use Rattle.awk_run.proofs.actions.action.Given as goal

abbrev pub invariant-loop-x : goal.invariant-loop-x
invariant-loop-x g l =
    (rest : Given → List Statement)
    → Along g.W.World l.cx (λ m. Do (Each (map (view_statement (names_in m)) l.xs ++ rest m)))
    (λ m k. Do (Each (map (view_statement (names_in m)) (drop l.x-index l.xs) ++ rest m)) ∷ k) (
      l.fn.run.store,
      l.fn.run.streams,
    ) l.fn.world (l.run.store, l.run.streams) l.world
