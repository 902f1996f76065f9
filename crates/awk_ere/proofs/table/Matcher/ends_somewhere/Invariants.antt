use Rattle.std.proofs.Common.{◌≡◌, ◌-◌, ◌<◌, ◌≤◌, length, false, None}
use Rattle.std.specs.List.{slice_index_or}
use Rattle.awk_ere.specs.Table.{IsAt, IsLongest}
use Rattle.awk_ere.proofs.table.Matcher.ends_somewhere.Given as goal

abbrev pub invariant-loop-place : goal.invariant-loop-place
invariant-loop-place l = record {
  after : l.from ≤ l.place;
  within : l.place ≤ length l.text;
  at' : IsAt l.self.sets l.self.program l.text l.cells l.accepts l.ends l.step l.from l.place l.state;
  none : IsLongest l.self.sets l.self.program l.text l.step l.from l.place None;
  quiet : l.place < length l.text → slice_index_or l.accepts l.state false ≡ false;
}

abbrev pub decreases-loop-place : goal.decreases-loop-place
decreases-loop-place l = length l.text - l.place
