use Rattle.std.proofs.Common.{◌≡◌, length}
use Rattle.awk_format.specs.Formatted.{completed, formatted, made_of}
use Rattle.awk_format.proofs.format.Given as goal

-- the text so far and what is still to come make the whole
abbrev pub invariant-loop-rest : goal.invariant-loop-rest
invariant-loop-rest l = completed l.out (made_of l.numbers l.rest l.values) ≡ formatted l.numbers l.format l.fn.values

abbrev pub decreases-loop-rest : goal.decreases-loop-rest
decreases-loop-rest l = length l.rest
