use Rattle.std.proofs.Common.{refl}
use Rattle.std.proofs.lemmas.Result.{err_from_is_err_and}
use Rattle.awk_machine.specs.Pieces.{Do, Read}
use Rattle.awk_streams.specs.Readings.{gives_read, key_of}
use Rattle.awk_streams.proofs.Chain.{at_once, done, part, stop}
use Rattle.awk_streams.proofs.MoreSteps.{reads_so}
use Rattle.awk_streams.proofs.getline.read.Goals as goal

pub returns-in_err-found-clause-task : goal.returns-in_err-found-clause-task
returns-in_err-found-clause-task g c =
    let p = err_from_is_err_and c.from_residual.result c.from_residual.ensures.1 in
    let key = key_of c.args.source.now in
    rw (p.1, p.2) (λ m s rs. stop _ (λ k. refl) (at_once _ c.args.streams.now c.args.world.now)
    (c.in_err-found.ensures.task m s (Do (Read c.args.place key)) gives_read (reads_so m s c.args.place key) rs)
    refl)

pub returns-clause-task : goal.returns-clause-task
returns-clause-task g c = λ m s rs.
    let key = key_of c.args.source.now in
    rw c.read_value.ensures (done (part c.in_ok-found.found (at_once _ c.args.streams.now c.args.world.now)
    (c.record.ensures.task m s (Do (Read c.args.place key)) gives_read (reads_so m s c.args.place key) rs)
    c.in_ok-found.was))
