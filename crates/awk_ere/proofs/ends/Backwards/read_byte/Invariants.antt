use Rattle.std.proofs.Common.{◌≡◌, length}
use Rattle.awk_ere.specs.Ends.{AreOver}
use Rattle.awk_ere.proofs.ends.Backwards.read_byte.Given as goal

abbrev pub invariant-loop-at : goal.invariant-loop-at
invariant-loop-at l = record {
  len : length l.row ≡ length l.self.program.now;
  over : AreOver l.self.sets.now l.self.program.now l.byte l.behind l.at l.row;
}
