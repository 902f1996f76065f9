use Rattle.std.proofs.Common.{◌≤◌, ◌-◌, length}
use Rattle.awk_ere.specs.Table.{NoneBegin}
use Rattle.awk_ere.proofs.heads.next_head.Given as goal

abbrev pub invariant-loop-place : goal.invariant-loop-place
invariant-loop-place l = record {
  after : l.from ≤ l.place;
  within : l.place ≤ length l.text;
  none : NoneBegin l.heads l.text l.from l.place;
}

abbrev pub decreases-loop-place : goal.decreases-loop-place
decreases-loop-place l = length l.text - l.place
