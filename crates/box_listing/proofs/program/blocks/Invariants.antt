use Rattle.std.proofs.Common.{◌≡◌, ◌++◌, drop, map}
use Rattle.awk_program.specs.View.{Names, view_statement}
use Rattle.box_listing.specs.Sites as spec
use Rattle.box_listing.proofs.program.blocks.Given as goal

abbrev pub invariant-loop-x : goal.invariant-loop-x
invariant-loop-x l = (t : Names) → l.initial.out.items ++ spec.actions (map (map (view_statement t)) l.xs) ≡ l.out.items
    ++ spec.actions (map (map (view_statement t)) (drop l.x-index l.xs))
