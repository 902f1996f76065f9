use Rattle.std.proofs.Common.{◌≡◌, ◌==◌, ◌<◌, ℕ, false, length, slice_index}
use Rattle.awk_ere.specs.Ends.{AreEnds, IsAbove, IsSettledAt}
use Rattle.awk_ere.proofs.ends.Backwards.raise_each.Given as goal

abbrev pub invariant-loop-k : goal.invariant-loop-k
invariant-loop-k l = record {
  len : length l.row ≡ length l.self.program.now;
  above : IsAbove l.initial.row l.row;
  ends : AreEnds l.self.sets.now l.self.program.now l.self.text.now l.place l.initial.row
      → AreEnds l.self.sets.now l.self.program.now l.self.text.now l.place l.row;
  settled : l.any ≡ false → (i : ℕ) → i < l.k → IsSettledAt l.self.program.now (l.place == 0)
      (l.place == length l.self.text.now) l.row (slice_index l.steps i);
}
