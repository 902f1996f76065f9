use Rattle.std.proofs.Common.{sym, ◌∙◌}
use Rattle.awk_ere.specs.View.{pattern}
use Rattle.awk_ere.proofs.Normal.{empty_repeat, merged_same}
use Rattle.awk_ere.proofs.tree.repeat_node.Goals as goal

pub returns-in-Empty : goal.returns-in-Empty
returns-in-Empty c = λ sets. rw c.in-Empty.is (empty_repeat c.args.least c.args.more)

pub returns-then-is_simple-2 : goal.returns-then-is_simple-2
returns-then-is_simple-2 c = λ sets.
    rw (c.in-Repeat.is, c.merged-bounds.ensures)
    (merged_same (pattern sets c.in-Repeat.inner.value) c.in-Repeat.low c.in-Repeat.room c.args.least c.args.more
    (sym c.is_simple.ensures ∙ c.if-is_simple.true) (sym c.is_simple-then-is_simple.ensures ∙ c.if-is_simple-2.true))
