use Rattle.std.proofs.Common.{sym, ◌∙◌}
use Rattle.awk_store.proofs.VariableSteps.{reads_variable}
use Rattle.awk_store.proofs.variables.read_variable.Goals as goal

pub returns-then-is_nf : goal.returns-then-is_nf
returns-then-is_nf c = λ g t. c.count_fields.ensures g t c.args.variable (sym c.is_nf.ensures ∙ c.if-is_nf.true)

pub returns : goal.returns
returns c = λ g t.
    rw (c.share.ensures.same, c.in-Ok.ensures.ok) (reads_variable g (c.args.store.now, t) c.args.variable
    (sym c.is_nf.ensures ∙ c.if-is_nf.false))
