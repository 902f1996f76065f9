use Rattle.std.proofs.Common.{[], ◌∷◌, drop, map}
use Rattle.awk_program.specs.Program as p
use Rattle.awk_program.specs.Program.{joins_of}
use Rattle.awk_program.specs.View.{view, view_joined}
use Rattle.awk_machine.specs.Forms.{value}
use Rattle.awk_machine.specs.Pieces.{At, Texts_of}
use Rattle.awk_store.specs.Wholes.{names_in}
use Rattle.awk_forms.specs.Along.{Along}
use Rattle.awk_forms.proofs.expressions.concat_each.Given as goal

abbrev pub invariant-loop-next : goal.invariant-loop-next
invariant-loop-next g l =
    Along g.W.World l.cx (λ m. value
    (p.concat (view (names_in m) l.x) (joins_of (map (view_joined (names_in m)) l.xs))))
    (λ m k. At (Texts_of (joins_of (map (view_joined (names_in m)) (drop l.next-index l.xs)))) (l.so_far ∷ []) ∷ k)
    (l.fn.run.store, l.fn.run.streams) l.fn.world (l.run.store, l.run.streams) l.world
