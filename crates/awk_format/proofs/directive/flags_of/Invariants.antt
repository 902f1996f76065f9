use Rattle.std.proofs.Common.{◌≡◌, take}
use Rattle.awk_format.specs.Directives.{flags_of}
use Rattle.awk_format.proofs.directive.flags_of.Given as goal

-- these are the flags so far
abbrev pub invariant-loop-b : goal.invariant-loop-b
invariant-loop-b l = l.flags ≡ flags_of (take l.b-index l.run)
