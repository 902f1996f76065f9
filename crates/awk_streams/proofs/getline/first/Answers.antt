use Rattle.awk_fields.specs.Heads.{head}
use Rattle.awk_streams.specs.Readings.{key_of}
use Rattle.awk_streams.proofs.Firsts.{fails_first, first_is}
use Rattle.awk_streams.proofs.getline.first.Goals as goal

pub returns-in-Ok-clause-ok : goal.returns-in-Ok-clause-ok
returns-in-Ok-clause-ok c = rw c.read_taken.ensures (λ i live.
    let x = c.in-Ok.ensures.ok i live in
    first_is (key_of c.args.source.now) c.args.streams.now c.take.new.streams i x.0
    (head c.args.rs.now i.unread i.ended) c.in-Ok.taken x.1 x.2)

pub returns-in-Err-clause-same : goal.returns-in-Err-clause-same
returns-in-Err-clause-same c = c.in-Err.ensures.err

pub returns-in-Err-clause-err : goal.returns-in-Err-clause-err
returns-in-Err-clause-err c = rw c.at.ensures (λ i live. fails_first c.args.place (head c.args.rs.now i.unread i.ended)
    c.in-Err.fault (c.in-Err.ensures.fault i live))
