use Rattle.std.proofs.Common.{◌≡◌, ◌++◌, drop}
use Rattle.awk_resolve.specs.Mentions as spec
use Rattle.awk_resolve.proofs.expressions.members.Given as goal

abbrev pub invariant-loop-member : goal.invariant-loop-member
invariant-loop-member l = l.initial.out ++ spec.members l.members ≡ l.out ++ spec.members
    (drop l.member-index l.members)
