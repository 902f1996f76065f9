use Rattle.std.proofs.Common.{◌++◌, false, refl}
use Rattle.std.proofs.lemmas.Result.{on_ok_weaker, on_err_weaker}
use Rattle.awk_streams.proofs.Held.{standard_changed, stream_changed}
use Rattle.awk_streams.proofs.inputs.push.Goals as goal

pub push_standard-requires : goal.push_standard-requires
push_standard-requires c = (rw c.in-Standard.is at c.requires) c.args.streams.now.input refl

pub push-requires : goal.push-requires
push-requires c = rw c.in-Stream.is at c.requires

pub returns-in-Standard-clause-ok : goal.returns-in-Standard-clause-ok
returns-in-Standard-clause-ok c =
    rw c.in-Standard.is (on_ok_weaker c.push_standard.result
    (λ e. standard_changed (λ i. record { unread = i.unread ++ c.args.bytes.now; ended = false }) c.args.streams.now
    c.push_standard.new.self c.push_standard.ensures.entries e) c.push_standard.ensures.ok)

pub returns-in-Standard-clause-err : goal.returns-in-Standard-clause-err
returns-in-Standard-clause-err c = on_err_weaker c.push_standard.result
    (λ e. record { entries = c.push_standard.ensures.entries; input = e }) c.push_standard.ensures.err

pub returns-in-Stream-clause-ok : goal.returns-in-Stream-clause-ok
returns-in-Stream-clause-ok c =
    rw c.in-Stream.is (on_ok_weaker c.push.result (λ e. stream_changed c.in-Stream.name
    (λ i. record { unread = i.unread ++ c.args.bytes.now; ended = false }) c.args.streams.now c.push.new.self e
    c.push.ensures.input) c.push.ensures.ok)

pub returns-in-Stream-clause-err : goal.returns-in-Stream-clause-err
returns-in-Stream-clause-err c = on_err_weaker c.push.result (λ e. record { entries = e; input = c.push.ensures.input })
    c.push.ensures.err
