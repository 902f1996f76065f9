use Rattle.std.proofs.Common.{sym, ◌∙◌}
use Rattle.awk_machine.specs.Operators as ops
use Rattle.std.proofs.lemmas.Result.{err_from_is_err_and}
use Rattle.awk_fields.specs.Rows.{joined}
use Rattle.awk_program.specs.declared.variables.Own.TheVariants as own
use Rattle.awk_store.specs.Kept as kept
use Rattle.awk_store.proofs.VariableSteps.{ok_at}
use Rattle.awk_builtins.proofs.Granted.{met_so}
use Rattle.awk_builtins.proofs.Listed.{removes_so, removes_not}
use Rattle.awk_builtins.proofs.keys.remove.Goals as goal

pub returns-in_err-key : goal.returns-in_err-key
returns-in_err-key c = λ g t xs e.
    let m = err_from_is_err_and c.from_residual.result c.from_residual.ensures.1 in
    rw (m.1, m.2) (met_so g (c.args.store.now, t) _ c.args.place
    (ops.limited (joined (kept.own_text c.args.store.now own.Subsep) c.args.subscripts.now)) c.key.result _
    c.key.ensures.err (sym c.at.ensures ∙ c.in_err-key.was)
    (removes_not g (c.args.store.now, t) c.args.place c.args.array xs c.args.subscripts.now e))

pub returns : goal.returns
returns c = λ g t xs e.
    removes_so g (c.args.store.now, t) c.args.place c.args.array xs c.args.subscripts.now e c.in_ok-key.key
    c.remove.new.self (rw (ok_at c.args.place c.key.result c.in_ok-key.key (sym c.at.ensures ∙ c.in_ok-key.was)) at
    c.key.ensures.ok)
    (rw c.bytes.ensures at c.remove.ensures)
