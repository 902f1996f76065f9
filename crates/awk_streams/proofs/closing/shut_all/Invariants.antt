use Rattle.std.proofs.Common.{length}
use Rattle.awk_machine.specs.Pieces.{Closing, Do, Outcome}
use Rattle.awk_machine.specs.State.{Given, State}
use Rattle.awk_streams.specs.Chains.{Leads}
use Rattle.awk_streams.specs.Tasks.{Owns, IsTable, beside, closing}
use Rattle.awk_streams.proofs.closing.shut_all.Given as goal

abbrev pub invariant-loop-number : goal.invariant-loop-number
invariant-loop-number g l =
    ((m : Given) (s : State) (o : Outcome) → Leads g.W.World (beside s) IsTable (λ t. s.course.used) m (Do (Closing o))
    l.fn.streams l.fn.world (closing o l.any) l.streams l.world)
    × Owns (g.W.World.open_numbers l.world) l.streams

abbrev pub decreases-loop-number : goal.decreases-loop-number
decreases-loop-number g l = length l.streams.entries
