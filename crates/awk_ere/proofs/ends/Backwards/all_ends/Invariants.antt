use Rattle.std.proofs.Common.{◌≡◌, ◌-◌, ◌≤◌, length}
use Rattle.awk_ere.specs.Ends.{AreFarthestTo, IsBehind}
use Rattle.awk_ere.proofs.ends.Backwards.all_ends.Given as goal

abbrev pub invariant-loop-left : goal.invariant-loop-left
invariant-loop-left l = record {
  row_len : length l.row.items ≡ length l.self.program.now;
  behind_len : length l.behind.items ≡ length l.self.program.now;
  count : length l.ends.items ≡ l.left;
  ends : AreFarthestTo l.self.sets.now l.self.program.now l.self.text.now l.entry l.left l.ends.items;
  behind : l.left ≤ length l.self.text.now → IsBehind l.self.sets.now l.self.program.now l.self.text.now
      (length l.self.text.now - l.left) l.behind.items;
}
