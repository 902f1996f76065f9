use Rattle.std.proofs.Common.{◌≡◌, ◌+◌, List, ◌++◌, length, true, drop}
use Rattle.std.specs.List.{AllZip}
use Rattle.toml.specs.View.{items_view}
use Rattle.box_policy.specs.declared.policy.Rule.{Rule}
use Rattle.box_policy.specs.Refusals.{rules_refusal}
use Rattle.box_policy.specs.Short.{are_short}
use Rattle.box_policy.specs.Tree.{tables_in}
use Rattle.box_policy.specs.Written.{WritesRule}
use Rattle.box_policy.proofs.reading.read_rules.Given as goal

-- the tables that are left have the numbers from `number` on, they are refused as all are, and
-- whatever rules they write come behind those written so far
abbrev pub invariant-loop-item : goal.invariant-loop-item
invariant-loop-item l =
    let rest = tables_in (items_view (drop l.item-index l.items)) in
    let all = tables_in (items_view l.items) in
    record {
      numbers : l.number + length rest ≡ 1 + length all;
      counted : l.number ≡ length l.rules.items + 1;
      short : are_short l.rules.items ≡ true;
      refused : rules_refusal l.version l.base l.number rest ≡ rules_refusal l.version l.base 1 all;
      written : (more : List Rule) → AllZip WritesRule rest more → AllZip WritesRule all (l.rules.items ++ more);
    }
