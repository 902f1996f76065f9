use Rattle.std.proofs.Common.{◌≡◌, ◌++◌, drop, map}
use Rattle.awk_tree.specs.View.{view_item}
use Rattle.awk_resolve.specs.Mentions as spec
use Rattle.awk_resolve.proofs.statements.parts.Given as goal

abbrev pub invariant-loop-item : goal.invariant-loop-item
invariant-loop-item l = map spec.part (map view_item l.items) ≡ l.parts ++ map spec.part
    (map view_item (drop l.item-index l.items))
