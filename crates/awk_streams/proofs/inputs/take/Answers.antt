use Rattle.std.proofs.lemmas.Result.{on_err_weaker}
use Rattle.awk_streams.proofs.Entries.{if_ok, if_err}
use Rattle.awk_streams.proofs.Held.{standard_fails, standard_taken, stream_taken}
use Rattle.awk_streams.proofs.inputs.take.Goals as goal

pub returns-in-Standard-clause-ok : goal.returns-in-Standard-clause-ok
returns-in-Standard-clause-ok c =
    rw c.in-Standard.is (if_ok c.take_standard.result (λ t x. standard_taken c.args.rs.now t c.args.streams.now
    c.take_standard.new.self c.take_standard.ensures.entries x) c.take_standard.ensures.ok)

pub returns-in-Standard-clause-err : goal.returns-in-Standard-clause-err
returns-in-Standard-clause-err c = on_err_weaker c.take_standard.result
    (λ e. record { entries = c.take_standard.ensures.entries; input = e }) c.take_standard.ensures.err

pub returns-in-Standard-clause-fault : goal.returns-in-Standard-clause-fault
returns-in-Standard-clause-fault c =
    rw c.in-Standard.is (if_err c.take_standard.result (λ e x. standard_fails c.args.rs.now e c.args.streams.now x)
    c.take_standard.ensures.fault)

pub returns-in-Stream-clause-ok : goal.returns-in-Stream-clause-ok
returns-in-Stream-clause-ok c =
    rw c.in-Stream.is (if_ok c.take.result (λ t x. stream_taken c.in-Stream.name c.args.rs.now t c.args.streams.now
    c.take.new.self c.take.ensures.input x) c.take.ensures.ok)

pub returns-in-Stream-clause-err : goal.returns-in-Stream-clause-err
returns-in-Stream-clause-err c = on_err_weaker c.take.result (λ e. record { entries = e; input = c.take.ensures.input })
    c.take.ensures.err

pub returns-in-Stream-clause-fault : goal.returns-in-Stream-clause-fault
returns-in-Stream-clause-fault c = rw c.in-Stream.is c.take.ensures.fault
