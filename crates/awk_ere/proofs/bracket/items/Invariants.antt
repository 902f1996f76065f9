use Rattle.std.proofs.Common.{◌≤◌, length, true}
use Rattle.awk_ere.specs.Bracket.{items}
use Rattle.awk_ere.proofs.Fronts.{Remain}
use Rattle.awk_ere.proofs.bracket.items.Given as goal

abbrev pub invariant-loop-left : goal.invariant-loop-left
invariant-loop-left l = record {
  within : length l.left ≤ length l.text;
  remain : Remain l.first l.left (items (length l.text) true l.text) l.fn.set l.set;
}

abbrev pub decreases-loop-left : goal.decreases-loop-left
decreases-loop-left l = length l.left
