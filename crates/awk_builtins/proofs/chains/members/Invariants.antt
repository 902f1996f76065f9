use Rattle.std.proofs.Common.{[], ◌∷◌, drop, map}
use Rattle.awk_machine.specs.Pieces.{At, Members_of}
use Rattle.awk_machine.specs.State.{Given}
use Rattle.awk_program.specs.View.{variable_of}
use Rattle.awk_streams.specs.Tables.{Table}
use Rattle.awk_store.specs.Acts.{Passes}
use Rattle.awk_store.specs.Wholes.{names_in}
use Rattle.awk_builtins.proofs.chains.members.Given as goal

abbrev pub invariant-loop-array : goal.invariant-loop-array
invariant-loop-array l =
    (g : Given) (t : Table) → Passes g (At (Members_of (map (variable_of (names_in g)) l.arrays)) (l.fn.key ∷ []))
    (l.store, t)
    (λ k. At (Members_of (map (variable_of (names_in g)) (drop l.array-index l.arrays))) (l.found ∷ []) ∷ k) (
      l.store,
      t,
    )
