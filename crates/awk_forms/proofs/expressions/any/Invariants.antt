use Rattle.std.proofs.Common.{[], ◌∷◌, drop, map}
use Rattle.awk_program.specs.Program as p
use Rattle.awk_program.specs.Program.{expressions_of}
use Rattle.awk_program.specs.View.{view}
use Rattle.awk_machine.specs.Forms.{value}
use Rattle.awk_machine.specs.Pieces.{At, Ors_of}
use Rattle.awk_store.specs.Wholes.{names_in}
use Rattle.awk_forms.specs.Along.{Along}
use Rattle.awk_forms.proofs.expressions.any.Given as goal

abbrev pub invariant-loop-y : goal.invariant-loop-y
invariant-loop-y g l =
    Along g.W.World l.cx (λ m. value (p.or (view (names_in m) l.x) (expressions_of (map (view (names_in m)) l.xs))))
    (λ m k. At (Ors_of (expressions_of (map (view (names_in m)) (drop l.y-index l.xs)))) (l.last ∷ []) ∷ k)
    (l.fn.run.store, l.fn.run.streams) l.fn.world (l.run.store, l.run.streams) l.world
