use Rattle.std.proofs.Common.{◌≡◌, ◌∙◌, true, codes, length, sym, ap, rules}
use Rattle.toml.specs.Data.{get_member}
use Rattle.toml.specs.Text.{are_tables}
use Rattle.toml.specs.View.{table_view, items_view}
use Rattle.box_policy.specs.Tree.{tables_in, tables_of}
use Rattle.box_policy.proofs.TreeLemmas.{length-tables_in}
use Rattle.box_policy.proofs.reading.rule_items.Goals as goal

pub returns-then-are_tables-clause-count : goal.returns-then-are_tables-clause-count
returns-then-are_tables-clause-count c =
    let same : tables_in (items_view c.as_slice-items.result.now)
    ≡ tables_of (get_member (codes "rule") (table_view c.args.table.now)) = search rules in
    let tables : are_tables (items_view c.as_slice-items.result.now) ≡ true = cc in
    sym (length-tables_in c.as_slice-items.result.now tables) ∙ ap length same
