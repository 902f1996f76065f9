use Rattle.std.proofs.Common.{[], ◌∷◌, drop, map}
use Rattle.awk_program.specs.Program as p
use Rattle.awk_program.specs.Program.{terms_of}
use Rattle.awk_program.specs.View.{view, view_term}
use Rattle.awk_machine.specs.Forms.{value}
use Rattle.awk_machine.specs.Pieces.{At, Terms_of}
use Rattle.awk_store.specs.Wholes.{names_in}
use Rattle.awk_forms.specs.Along.{Along}
use Rattle.awk_forms.proofs.expressions.chain.Given as goal

abbrev pub invariant-loop-next : goal.invariant-loop-next
invariant-loop-next g l =
    Along g.W.World l.cx (λ m. value (p.chain (view (names_in m) l.x) (terms_of (map (view_term (names_in m)) l.xs))))
    (λ m k. At (Terms_of (terms_of (map (view_term (names_in m)) (drop l.next-index l.xs)))) (l.so_far ∷ []) ∷ k)
    (l.fn.run.store, l.fn.run.streams) l.fn.world (l.run.store, l.run.streams) l.world
