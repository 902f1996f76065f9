use Rattle.std.proofs.Common.{◌≡◌, ◌++◌, drop, map}
use Rattle.std.specs.List.{flat_map}
use Rattle.awk_tree.specs.Canon as spec
use Rattle.awk_tree.specs.View.{view_item}
use Rattle.awk_canon.proofs.items.entries.Given as goal

abbrev pub invariant-loop-item : goal.invariant-loop-item
invariant-loop-item l = l.initial.out.items ++ flat_map spec.canon_entry (map view_item l.items) ≡ l.out.items
    ++ flat_map spec.canon_entry (map view_item (drop l.item-index l.items))
