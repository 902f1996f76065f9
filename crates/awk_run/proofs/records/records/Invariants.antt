use Rattle.std.proofs.Common.{[], ◌∷◌}
use Rattle.awk_machine.specs.Pieces.{At, Records}
use Rattle.awk_forms.specs.Along.{Along}
use Rattle.awk_run.proofs.records.records.Given as goal

abbrev pub invariant-loop-record : goal.invariant-loop-record
invariant-loop-record g l = Along g.W.World l.cx (λ m. At Records []) (λ m k. At Records [] ∷ k) (
  l.fn.run.store,
  l.fn.run.streams,
) l.fn.world (l.run.store, l.run.streams) l.world
