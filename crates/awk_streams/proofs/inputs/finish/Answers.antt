use Rattle.std.proofs.Common.{true}
use Rattle.awk_streams.proofs.Held.{standard_changed, stream_changed}
use Rattle.awk_streams.proofs.inputs.finish.Goals as goal

pub returns-in-Standard : goal.returns-in-Standard
returns-in-Standard c = rw c.in-Standard.is (standard_changed (λ i. record { unread = i.unread; ended = true })
    c.args.streams.now c.finish_standard.new.self c.finish_standard.ensures.entries c.finish_standard.ensures.input)

pub returns-in-Stream : goal.returns-in-Stream
returns-in-Stream c =
    rw c.in-Stream.is (stream_changed c.in-Stream.name (λ i. record { unread = i.unread; ended = true })
    c.args.streams.now c.finish.new.self c.finish.ensures.entries c.finish.ensures.input)
