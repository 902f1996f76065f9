use Rattle.std.proofs.Common.{map}
use Rattle.awk_program.specs.View.{view}
use Rattle.awk_store.specs.Wholes.{names_in}
use Rattle.awk_forms.specs.Along.{Filling}
use Rattle.awk_forms.proofs.lists.fill.Given as goal

abbrev pub invariant-loop-x : goal.invariant-loop-x
invariant-loop-x g l = Filling g.W.World l.cx (λ m. map (view (names_in m)) l.xs) l.fn.values.items l.values.items
    l.x-index (l.fn.run.store, l.fn.run.streams) l.fn.world (l.run.store, l.run.streams) l.world
