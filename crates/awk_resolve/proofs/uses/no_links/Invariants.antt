use Rattle.std.proofs.Common.{◌≡◌, [], replicate}
use Rattle.awk_resolve.proofs.uses.no_links.Given as goal

abbrev pub invariant-loop-i : goal.invariant-loop-i
invariant-loop-i l = l.table.items ≡ replicate l.i []
