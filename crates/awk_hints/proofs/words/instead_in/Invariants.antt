use Rattle.std.proofs.Common.{length}
use Rattle.awk_hints.proofs.words.instead_in.Given as goal

abbrev pub decreases-loop-table : goal.decreases-loop-table
decreases-loop-table l = length l.table
