use Rattle.std.proofs.Common.{refl, ap, ◌∙◌, true, false}
use Rattle.std.specs.Prelude.{Ok}
use Rattle.std.proofs.lemmas.Result.{err_from_is_err_and}
use Rattle.awk_streams.proofs.Chain.{at_once, done, lacking, part, stop}
use Rattle.awk_run.proofs.records.records.Goals as goal

pub loop-record-init : goal.loop-record-init
loop-record-init g c = record { leads = λ m is. at_once _ _ _; owns = c.requires }

pub returns-in_err-goes_on : goal.returns-in_err-goes_on
returns-in_err-goes_on g c =
    let e = err_from_is_err_and c.from_residual.result c.from_residual.ensures.1 in
    rw (e.1, e.2) (record {
      plays = λ m is. stop _ (λ k. refl) (c.loop-record.invariant.leads m is)
          (c.turn.ensures.plays m is) c.in_err-goes_on.was;
      owns = c.turn.ensures.owns;
    })

pub returns-then-not-goes_on : goal.returns-then-not-goes_on
returns-then-not-goes_on g c =
    record {
      plays = λ m is. done (part false (c.loop-record.invariant.leads m is) (c.turn.ensures.plays m is)
          (c.in_ok-goes_on.was ∙ ap (λ b. Ok b) c.if-not-goes_on.true));
      owns = c.turn.ensures.owns;
    }

pub loop-record-preserved : goal.loop-record-preserved
loop-record-preserved g c = record {
  leads = λ m is. part true (c.loop-record.invariant.leads m is)
      (c.turn.ensures.plays m is) (c.in_ok-goes_on.was ∙ ap (λ b. Ok b) c.if-not-goes_on.false);
  owns =
      c.turn.ensures.owns;
}

pub returns : goal.returns
returns g c = record {
  plays = λ m is. lacking (c.loop-record.invariant.leads m is);
  owns =
      c.loop-record.invariant.owns;
}

pub turn-requires : goal.turn-requires
turn-requires g c = c.loop-record.invariant.owns
