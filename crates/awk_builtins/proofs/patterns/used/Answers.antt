use Rattle.std.proofs.Common.{refl, ◌∙◌}
use Rattle.awk_builtins.proofs.Matches.{passed_constant, passed_computed}
use Rattle.awk_builtins.proofs.Rests.{ok_for}
use Rattle.awk_builtins.proofs.patterns.used.Goals as goal

pub returns-in-Constant-clause-check : goal.returns-in-Constant-clause-check
returns-in-Constant-clause-check c = λ g w y is from to h. passed_constant g w c.args.place from y c.args.pattern to
    c.in-Constant.ere (rw c.in-Constant.is tt) is h

pub returns-in-Constant-clause-ere : goal.returns-in-Constant-clause-ere
returns-in-Constant-clause-ere c = rw c.in-Constant.is refl

pub returns-in-Computed-clause-check : goal.returns-in-Computed-clause-check
returns-in-Computed-clause-check c = λ g w y is from to h.
    passed_computed g w c.args.place from y c.in-Computed.computed to c.check.result (rw c.in-Computed.is at is)
    (rw c.in-Computed.is at h) (rw c.text_in.ensures at (c.check.ensures.check g w))

pub returns-in-Computed-clause-ere : goal.returns-in-Computed-clause-ere
returns-in-Computed-clause-ere c =
    rw c.in-Computed.is (ok_for c.check.result (λ e h. h.0 ∙ c.text_in.ensures) c.check.ensures.ere)
