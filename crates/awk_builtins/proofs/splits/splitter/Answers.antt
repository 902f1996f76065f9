use Rattle.awk_builtins.proofs.Matches.{split_constant, split_computed}
use Rattle.awk_builtins.proofs.splits.splitter.Goals as goal

pub returns-in-Constant : goal.returns-in-Constant
returns-in-Constant c = λ g w y is at a text from h.
    rw c.by_compiled.ensures (rw c.in-Constant.is at (split_constant g w c.args.place from at a text y c.args.by
    (rw c.in-Constant.is tt) is h))

pub returns-in-Computed : goal.returns-in-Computed
returns-in-Computed c = λ g w y is at a text from h.
    (rw c.text_in.ensures at (c.computed_splitter.ensures g w at a text from))
    (split_computed g w c.args.place from at a text y c.in-Computed.computed (rw c.in-Computed.is at is)
    (rw c.in-Computed.is at h))
