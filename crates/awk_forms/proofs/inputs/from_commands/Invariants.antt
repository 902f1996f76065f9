use Rattle.std.proofs.Common.{[], ◌∷◌, drop}
use Rattle.awk_program.specs.Program as p
use Rattle.awk_program.specs.View.{view, view_pipes}
use Rattle.awk_machine.specs.Forms.{value}
use Rattle.awk_machine.specs.Pieces.{At, Pipes_of}
use Rattle.awk_store.specs.Wholes.{names_in}
use Rattle.awk_forms.specs.Along.{Along}
use Rattle.awk_forms.proofs.inputs.from_commands.Given as goal

abbrev pub invariant-loop-next : goal.invariant-loop-next
invariant-loop-next g l =
    Along g.W.World l.cx (λ m. value (p.pipe (view (names_in m) l.x) (view_pipes (names_in m) l.xs)))
    (λ m k. At (Pipes_of (view_pipes (names_in m) (drop l.next-index l.xs))) (l.so_far ∷ []) ∷ k) (
      l.fn.run.store,
      l.fn.run.streams,
    ) l.fn.world (l.run.store, l.run.streams) l.world
