use Rattle.std.proofs.Common.{refl}
use Rattle.std.proofs.lemmas.Result.{err_from_is_err_and}
use Rattle.awk_run.proofs.Reaching.{then_goes}
use Rattle.awk_run.proofs.Starting.{then_prepared, then_unprepared}
use Rattle.awk_run.proofs.program.begin.Goals as goal

pub returns-in_err-prepare-clause-plays : goal.returns-in_err-prepare-clause-plays
returns-in_err-prepare-clause-plays g c =
    let e = err_from_is_err_and c.from_residual.result c.from_residual.ensures.1 in
    rw (e.1, e.2) (λ m is start first y. then_unprepared _ _ _ y (c.prepare.ensures m c.args.run.now.streams _ is.host
    start) c.in_err-prepare.was)

pub returns-in_err-prepare-clause-owns : goal.returns-in_err-prepare-clause-owns
returns-in_err-prepare-clause-owns g c = c.requires

pub returns-clause-plays : goal.returns-clause-plays
returns-clause-plays g c = λ m is start first y.
    then_goes refl (then_prepared y (c.prepare.ensures m c.args.run.now.streams _ is.host start) c.in_ok-prepare.was)
    (rw (c.looked_up.ensures, ← start.names_environ, ← start.environment) at (c.environ.ensures.plays m is))

pub returns-clause-owns : goal.returns-clause-owns
returns-clause-owns g c = c.environ.ensures.owns
