use Rattle.std.proofs.Common.{◌≡◌, ◌++◌, drop, map}
use Rattle.awk_tree.specs.View.{view_item}
use Rattle.box_listing.specs.Scripts.{sort_of}
use Rattle.box_listing.proofs.scripts.order_of.Given as goal

abbrev pub invariant-loop-item : goal.invariant-loop-item
invariant-loop-item l = map sort_of (map view_item l.items) ≡ l.order.items ++ map sort_of
    (map view_item (drop l.item-index l.items))
