use Rattle.std.proofs.Common.{◌≡◌, length}
use Rattle.awk_ere.specs.Ends.{AreEnds, IsAbove}
use Rattle.awk_ere.proofs.ends.Backwards.settle.Given as goal

abbrev pub invariant-loop : goal.invariant-loop
invariant-loop l = record {
  len : length l.row ≡ length l.self.program.now;
  above : IsAbove l.fn.row l.row;
  ends : AreEnds l.self.sets.now l.self.program.now l.self.text.now l.place l.fn.row
      → AreEnds l.self.sets.now l.self.program.now l.self.text.now l.place l.row;
}
