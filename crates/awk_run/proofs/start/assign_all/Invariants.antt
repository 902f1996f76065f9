use Rattle.std.proofs.Common.{List, ◌++◌, drop}
use Rattle.awk_streams.specs.Tables.{Table}
use Rattle.awk_machine.specs.Pieces.{Piece}
use Rattle.awk_machine.specs.State.{Given}
use Rattle.awk_input.specs.Hosts.{IsHost}
use Rattle.awk_run.specs.Starts.{Prepared, assigning}
use Rattle.awk_run.proofs.start.assign_all.Given as goal

abbrev pub invariant-loop-pair : goal.invariant-loop-pair
invariant-loop-pair l = (m : Given) (t : Table) (k : List Piece) → IsHost l.host m
    → Prepared m (assigning m.can_assign l.pairs ++ k) (assigning m.can_assign (drop l.pair-index l.pairs) ++ k)
    (l.fn.store, t) (l.store, t)
