use Rattle.std.proofs.Common.{refl}
use Rattle.awk_streams.specs.Readings.{key_of}
use Rattle.awk_streams.proofs.MoreSteps.{received_none}
use Rattle.awk_streams.proofs.getline.receive.Goals as goal

pub returns-in-Ok-clause-ok : goal.returns-in-Ok-clause-ok
returns-in-Ok-clause-ok c = rw c.in-Bytes.is (λ i live. (refl, rw c.bytes.ensures at (c.in-Ok.ensures.ok i live)))

pub returns-in-Err-clause-same : goal.returns-in-Err-clause-same
returns-in-Err-clause-same c = c.in-Err.ensures.err

pub returns-in-Err-clause-err : goal.returns-in-Err-clause-err
returns-in-Err-clause-err c = rw c.in-Bytes.is tt

pub returns-in-End-clause-ok : goal.returns-in-End-clause-ok
returns-in-End-clause-ok c = rw c.in-End.is (λ i live. (refl, c.finish.ensures i live))

pub returns-in_default : goal.returns-in_default
returns-in_default c = record {
  ok = λ i live. received_none (key_of c.args.source.now) c.args.streams.now i
      c.args.reply.now c.in_default.not-Bytes c.in_default.not-End;
  same = tt;
  err = tt;
}
