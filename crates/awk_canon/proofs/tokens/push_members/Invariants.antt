use Rattle.std.proofs.Common.{◌≡◌, ◌++◌, drop}
use Rattle.awk_tree.specs.Canon as spec
use Rattle.awk_canon.proofs.tokens.push_members.Given as goal

abbrev pub invariant-loop-member : goal.invariant-loop-member
invariant-loop-member l = l.initial.out.items ++ spec.canon_members l.members ≡ l.out.items ++ spec.canon_members
    (drop l.member-index l.members)
