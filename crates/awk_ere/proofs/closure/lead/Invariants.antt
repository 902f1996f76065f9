use Rattle.std.proofs.Common.{◌≡◌, length}
use Rattle.awk_ere.proofs.Gathering.{IsLeading}
use Rattle.awk_ere.proofs.closure.lead.Given as goal

abbrev pub invariant-loop-at : goal.invariant-loop-at
invariant-loop-at l = record {
  len : length l.room.starts ≡ length l.program;
  leading : IsLeading l.program l.ends.first l.ends.last l.list l.at-index l.room.starts;
}
