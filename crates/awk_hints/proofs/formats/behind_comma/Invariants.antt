use Rattle.std.proofs.Common.{length}
use Rattle.awk_hints.proofs.formats.behind_comma.Given as goal

abbrev pub decreases-loop-rest : goal.decreases-loop-rest
decreases-loop-rest l = length l.rest
