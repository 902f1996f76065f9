use Rattle.std.proofs.Common.{◌∙◌, ap, ◌++◌}
use Rattle.awk_text.specs.declared.value.Value.TheVariants as v
use Rattle.awk_store.specs.Changes.{with_value}
use Rattle.awk_builtins.proofs.at_hand.growth.set_longer.Goals as goal

pub returns-clause-ok : goal.returns-clause-ok
returns-clause-ok c =
    c.set.ensures ∙ ap (λ text. with_value c.args.to (v.Text text) c.args.store.now)
    (c.new.ensures ∙ c.in_ok-extend_from_slice.ensures.items ∙ ap (λ text. text ++ c.args.more.now)
    c.in_ok-bytes.ensures)
