use Rattle.std.proofs.Common.{◌∙◌, ap, ◌++◌}
use Rattle.awk_text.specs.declared.value.Value.TheVariants as v
use Rattle.awk_store.specs.Changes.{with_value}
use Rattle.awk_store.proofs.Cells.{ok_so, value_twice}
use Rattle.awk_builtins.proofs.at_hand.growth.set_behind.Goals as goal

pub returns-clause-ok : goal.returns-clause-ok
returns-clause-ok c =
    let whole = v.Text (c.args.text ++ c.args.more.now) in
    ok_so c.set_longer.result c.set_longer.ensures.ok (λ same. same ∙ ap (with_value c.args.to whole) c.set.ensures
    ∙ value_twice c.args.to v.Unset whole c.args.store.now)
