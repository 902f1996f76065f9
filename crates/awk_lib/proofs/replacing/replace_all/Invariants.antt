use Rattle.std.proofs.Common.{◌≡◌, length}
use Rattle.awk_lib.proofs.Making.{Turn, left_of}
use Rattle.awk_lib.proofs.replacing.replace_all.Given as goal

abbrev pub invariant-loop-next : goal.invariant-loop-next
invariant-loop-next l = record {
  turn : Turn l.ere l.with l.text l.next l.done l.count l.out;
  same : l.searches ≡ (l.ere, l.text);
}

abbrev pub decreases-loop-next : goal.decreases-loop-next
decreases-loop-next l = left_of (length l.text) l.next
