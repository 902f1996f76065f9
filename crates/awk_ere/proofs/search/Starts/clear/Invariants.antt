use Rattle.std.proofs.Common.{◌≡◌, length}
use Rattle.awk_ere.proofs.Advance.{IsClearing}
use Rattle.awk_ere.proofs.search.Starts.clear.Given as goal

abbrev pub invariant-loop-at : goal.invariant-loop-at
invariant-loop-at l = record {
  clearing : IsClearing l.at-items l.at-index l.self-inside.1.0.items;
  len : length l.self-inside.1.0.items ≡ length l.fn.self;
}
