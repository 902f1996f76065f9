use Rattle.std.proofs.Common.{refl, ap, ◌∙◌, true, false}
use Rattle.std.specs.Prelude.{Ok}
use Rattle.std.proofs.lemmas.Result.{err_from_is_err_and}
use Rattle.awk_streams.proofs.Chain.{part}
use Rattle.awk_store.proofs.Leading.{takes}
use Rattle.awk_input.proofs.MainSteps.{done_in, stop_in}
use Rattle.awk_run.proofs.RuleSteps.{begun, in_midst, stop_before}
use Rattle.awk_run.proofs.records.one_record.Goals as goal

pub returns-in_err-is_there : goal.returns-in_err-is_there
returns-in_err-is_there g c =
    let e = err_from_is_err_and c.from_residual.result c.from_residual.ensures.1 in
    rw (e.1, e.2) (record {
      plays = λ m is. in_midst _ (c.next_record.ensures.task m is.host) c.in_err-is_there.was;
      owns = c.next_record.ensures.owns;
    })

pub returns-then-not-is_there : goal.returns-then-not-is_there
returns-then-not-is_there g c = record {
  plays = λ m is. done_in (begun false (c.next_record.ensures.task m is.host) (c.in_ok-is_there.was
      ∙ ap (λ b. Ok b) c.if-not-is_there.true));
  owns = c.next_record.ensures.owns;
}

pub returns-in_err-step : goal.returns-in_err-step
returns-in_err-step g c =
    let e = err_from_is_err_and c.from_residual-in_err-step.result c.from_residual-in_err-step.ensures.1 in
    rw (e.1, e.2) (record {
      plays = λ m is. stop_before _ (λ k. refl) (begun true (c.next_record.ensures.task m is.host) (c.in_ok-is_there.was
          ∙ ap (λ b. Ok b) c.if-not-is_there.false))
          (takes is.host.bound (rw c.bound.ensures at (c.step.ensures c.next_record.new.streams))) c.in_err-step.was;
      owns = c.next_record.ensures.owns;
    })

pub returns-in_err-rules : goal.returns-in_err-rules
returns-in_err-rules g c =
    let e = err_from_is_err_and c.from_residual-in_err-rules.result c.from_residual-in_err-rules.ensures.1 in
    rw (e.1, e.2) (record {
      plays = λ m is. stop_in _
          (part _ (begun true (c.next_record.ensures.task m is.host) (c.in_ok-is_there.was
          ∙ ap (λ b. Ok b) c.if-not-is_there.false))
          (takes is.host.bound (rw c.bound.ensures at (c.step.ensures c.next_record.new.streams))) c.in_ok-step.was)
          (c.rules.ensures.plays m is) c.in_err-rules.was;
      owns = c.rules.ensures.owns;
    })

pub returns : goal.returns
returns g c = record {
  plays = λ m is. done_in
      (part _ (part _ (begun true (c.next_record.ensures.task m is.host) (c.in_ok-is_there.was
      ∙ ap (λ b. Ok b) c.if-not-is_there.false))
      (takes is.host.bound (rw c.bound.ensures at (c.step.ensures c.next_record.new.streams))) c.in_ok-step.was)
      (c.rules.ensures.plays m is) c.in_ok-rules.was);
  owns = c.rules.ensures.owns;
}
