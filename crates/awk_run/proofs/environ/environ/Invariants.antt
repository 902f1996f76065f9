use Rattle.std.proofs.Common.{◌∷◌, drop}
use Rattle.awk_machine.specs.Pieces.{Do, Environ}
use Rattle.awk_forms.specs.Along.{Along}
use Rattle.awk_run.proofs.environ.environ.Given as goal

abbrev pub invariant-loop-name : goal.invariant-loop-name
invariant-loop-name g l = Along g.W.World l.cx (λ m. Do (Environ l.names))
    (λ m k. Do (Environ (drop l.name-index l.names)) ∷ k) (l.fn.run.store, l.fn.run.streams) l.fn.world (
      l.run.store,
      l.run.streams,
    ) l.world
