use Rattle.std.proofs.Common.{◌≡◌, List, [], ◌++◌, sym, ap, subst, drop}
use Rattle.std.proofs.Math.ListN.{drop_of_length-le}
use Rattle.std.proofs.lemmas.List.{append-nil}
use Rattle.std.specs.List.{AllZip}
use Rattle.toml.specs.Data.{Members}
use Rattle.toml.specs.View.{items_view}
use Rattle.box_policy.specs.declared.policy.Rule.{Rule}
use Rattle.box_policy.specs.Tree.{tables_in}
use Rattle.box_policy.specs.Written.{WritesRule}
use Rattle.box_policy.proofs.reading.read_rules.Goals as goal

-- where no table is left, the rules so far are those of all tables
all_written : (all rest : List Members) (rules : List Rule) → rest ≡ []
    → ((more : List Rule) → AllZip WritesRule rest more → AllZip WritesRule all (rules ++ more))
    → AllZip WritesRule all rules
all_written all rest rules none written =
    subst (AllZip WritesRule all) (append-nil rules)
    (written [] (subst (λ (left : List Members). AllZip WritesRule left []) (sym none) tt))

pub returns-clause-ok : goal.returns-clause-ok
returns-clause-ok c =
    all_written _ _ c.loop-item.rules.items
    (ap (λ items. tables_in (items_view items)) (drop_of_length-le c.args.items.now c.loop-item-test.false))
    c.loop-item.invariant.written
