use Rattle.std.proofs.Common.{sym, ◌∙◌}
use Rattle.awk_store.proofs.VariableSteps.{sets_variable}
use Rattle.awk_store.proofs.variables.set_variable.Goals as goal

pub returns-then-is_nf : goal.returns-then-is_nf
returns-then-is_nf c = λ g t. c.set_count.ensures g t c.args.variable (sym c.is_nf.ensures ∙ c.if-is_nf.true)

pub returns : goal.returns
returns c = λ g t. sets_variable g (c.args.store.now, t) c.args.variable c.args.place c.args.value c.set.new.self
    (sym c.is_nf.ensures ∙ c.if-is_nf.false) c.set.ensures
