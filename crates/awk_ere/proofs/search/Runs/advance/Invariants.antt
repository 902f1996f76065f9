use Rattle.std.proofs.Common.{◌≡◌, ◌==◌, ◌+◌, length, slice_index}
use Rattle.awk_ere.proofs.Advance.{IsAdvancing}
use Rattle.awk_ere.proofs.search.Runs.advance.Given as goal

abbrev pub invariant-loop-at : goal.invariant-loop-at
invariant-loop-at l = record {
  len : length l.ahead ≡ length l.self.program.now;
  advancing : IsAdvancing l.self.sets.now l.self.program.now (slice_index l.self.text.now l.place) (l.place + 1 == 0)
      (l.place + 1 == length l.self.text.now) l.cap l.here l.at-items l.at-index l.ahead;
}
