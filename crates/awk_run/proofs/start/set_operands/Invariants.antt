use Rattle.std.proofs.Common.{◌+◌, ◌≤◌, List, ◌++◌, drop, length}
use Rattle.awk_streams.specs.Tables.{Table}
use Rattle.awk_machine.specs.Begins.{operands}
use Rattle.awk_machine.specs.Pieces.{Piece}
use Rattle.awk_machine.specs.State.{Given}
use Rattle.awk_run.specs.Starts.{Prepared}
use Rattle.awk_run.proofs.start.set_operands.Given as goal

abbrev pub invariant-loop-n : goal.invariant-loop-n
invariant-loop-n l = ((m : Given) (t : Table) (k : List Piece)
    → Prepared m (operands 1 l.operands ++ k) (operands (l.n + 1) (drop l.n l.operands) ++ k) (l.fn.store, t) (
      l.store,
      t,
    )) × (l.n ≤ length l.operands)
