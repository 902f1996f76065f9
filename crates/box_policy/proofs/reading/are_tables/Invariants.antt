use Rattle.std.proofs.Common.{◌≡◌, drop}
use Rattle.toml.specs.Text.{are_tables}
use Rattle.toml.specs.View.{items_view}
use Rattle.box_policy.proofs.reading.are_tables.Given as goal

-- those before are tables
abbrev pub invariant-loop-item : goal.invariant-loop-item
invariant-loop-item l = are_tables (items_view (drop l.item-index l.items)) ≡ are_tables (items_view l.items)
