use Rattle.std.proofs.Common.{◌∷◌}
use Rattle.awk_machine.specs.Pieces.{Do, Take}
use Rattle.awk_machine.specs.State.{Given}
use Rattle.awk_streams.specs.Tasks.{Owns}
use Rattle.awk_input.specs.Hosts.{IsHost}
use Rattle.awk_input.specs.Performs.{LeadsWhole}
use Rattle.awk_input.proofs.main_input.take_on.Given as goal

abbrev pub invariant-loop : goal.invariant-loop
invariant-loop g l =
    ((m : Given) → IsHost l.fn.host m → LeadsWhole g.W.World m (Do Take) (l.fn.store, l.fn.streams) l.fn.world
    (λ k. Do Take ∷ k) (l.store, l.streams) l.world) × Owns (g.W.World.open_numbers l.world) l.streams
