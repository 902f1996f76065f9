use Rattle.std.proofs.Common.{[], ◌∷◌}
use Rattle.std.specs.Prelude.{option_copied}
use Rattle.awk_machine.specs.Pieces.{At, Test}
use Rattle.awk_store.specs.Wholes.{names_in}
use Rattle.awk_forms.specs.Along.{Along}
use Rattle.awk_eval.specs.Loops.{loop_of}
use Rattle.awk_eval.proofs.loops.turns.Given as goal

abbrev pub invariant-loop-turn : goal.invariant-loop-turn
invariant-loop-turn g l =
    Along g.W.World l.cx (λ m. At (Test (loop_of (names_in m) (option_copied l.test) l.inner (option_copied l.after)))
    []) (λ m k. At (Test (loop_of (names_in m) (option_copied l.test) l.inner (option_copied l.after))) [] ∷ k)
    (l.fn.run.store, l.fn.run.streams) l.fn.world (l.run.store, l.run.streams) l.world
