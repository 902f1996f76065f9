use Rattle.std.proofs.Common.{sym, ◌∙◌}
use Rattle.awk_store.proofs.Leaving.{exit_with_is, exit_with_is_not}
use Rattle.awk_store.proofs.jumps.exit_with.Goals as goal

pub returns-in-Ok : goal.returns-in-Ok
returns-in-Ok c = λ g t x. exit_with_is g c.args.store.now t c.args.place x c.args.value.now c.in-Ok.status
    c.unwind.new.self c.set_status.new.self (rw c.numbers.ensures at (sym c.exit_status.ensures ∙ c.in-Ok.is))
    c.unwind.ensures c.set_status.ensures

pub returns-in-Err : goal.returns-in-Err
returns-in-Err c = λ g t x. exit_with_is_not g c.args.store.now t c.args.place x c.args.value.now c.in-Err.fault
    c.at.result (rw c.numbers.ensures at (sym c.exit_status.ensures ∙ c.in-Err.is)) c.at.ensures
