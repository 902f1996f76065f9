use Rattle.std.proofs.Common.{◌≡◌, ◌++◌, drop, map}
use Rattle.awk_program.specs.View.{Names, view_rule}
use Rattle.box_listing.specs.Sites as spec
use Rattle.box_listing.proofs.program.rules.Given as goal

abbrev pub invariant-loop-x : goal.invariant-loop-x
invariant-loop-x l = (t : Names) → l.initial.out.items ++ spec.rules (map (view_rule t) l.xs) ≡ l.out.items
    ++ spec.rules (map (view_rule t) (drop l.x-index l.xs))
