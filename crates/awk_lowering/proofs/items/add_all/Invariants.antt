use Rattle.std.proofs.Common.{◌≡◌, drop, map}
use Rattle.awk_tree.specs.View.{view_item}
use Rattle.awk_program.specs.View.{view_by}
use Rattle.awk_resolve.specs.TablesIn.{tables_in}
use Rattle.awk_lowering.specs.Programs.{with_entries}
use Rattle.awk_lowering.proofs.items.add_all.Given as goal

abbrev pub invariant-loop-item : goal.invariant-loop-item
invariant-loop-item l = with_entries l.context.numbers (tables_in l.tables) (map view_item l.items)
    (view_by l.tables.variables l.initial.out) ≡ with_entries l.context.numbers (tables_in l.tables)
    (map view_item (drop l.item-index l.items)) (view_by l.tables.variables l.out)
