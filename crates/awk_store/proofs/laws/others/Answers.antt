use Rattle.std.specs.Prelude.{refl}
use Rattle.awk_store.proofs.Ranges.{turns}
use Rattle.awk_store.proofs.laws.others.Goals as goal

pub returns-clause-on : goal.returns-clause-on
returns-clause-on c = turns

pub returns-clause-main : goal.returns-clause-main
returns-clause-main c = λ names k hidden main. refl

pub returns-clause-phase : goal.returns-clause-phase
returns-clause-phase c = λ names k hidden phase. refl

pub returns-clause-status : goal.returns-clause-status
returns-clause-status c = λ names k hidden n. refl

pub returns-clause-same : goal.returns-clause-same
returns-clause-same c = λ names k hidden row. (refl, refl)

pub returns-clause-random : goal.returns-clause-random
returns-clause-random c = λ names k hidden random. refl
