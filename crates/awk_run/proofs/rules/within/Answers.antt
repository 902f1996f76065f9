use Rattle.std.proofs.Common.{refl, ap, ◌∙◌, true, false}
use Rattle.std.specs.Prelude.{Ok, Some, None}
use Rattle.std.proofs.lemmas.Result.{err_from_is_err_and}
use Rattle.awk_streams.proofs.Chain.{at_once, done, lacking, part, passes, stop}
use Rattle.awk_run.proofs.rules.within.Goals as goal

pub loop-pattern-init : goal.loop-pattern-init
loop-pattern-init g c = record { leads = λ m is. at_once _ _ _; owns = c.requires }

pub returns-in_err-is_done : goal.returns-in_err-is_done
returns-in_err-is_done g c =
    let e = err_from_is_err_and c.from_residual.result c.from_residual.ensures.1 in
    rw (e.1, e.2) (record {
      plays = λ m is. stop _ (λ k. refl) (c.loop-pattern.invariant.leads m is)
          (c.test_range.ensures.plays m is) c.in_err-is_done.was;
      owns = c.test_range.ensures.owns;
    })

pub returns-then-not-acts : goal.returns-then-not-acts
returns-then-not-acts g c = record {
  plays = λ m is. done (part (Some false) (c.loop-pattern.invariant.leads m is) (c.test_range.ensures.plays m is)
      (c.in_ok-is_done.was ∙ ap (λ o. Ok o) (c.in-Some.is ∙ ap (λ b. Some b) c.if-not-acts.true)));
  owns = c.test_range.ensures.owns;
}

pub returns-in-Some : goal.returns-in-Some
returns-in-Some g c = record {
  plays = λ m is. passes (part (Some true) (c.loop-pattern.invariant.leads m is) (c.test_range.ensures.plays m is)
      (c.in_ok-is_done.was ∙ ap (λ o. Ok o) (c.in-Some.is ∙ ap (λ b. Some b) c.if-not-acts.false)))
      (c.body.ensures.plays m is);
  owns = c.body.ensures.owns;
}

pub loop-pattern-preserved : goal.loop-pattern-preserved
loop-pattern-preserved g c = record {
  leads = λ m is. part None (c.loop-pattern.invariant.leads m is)
      (c.test_range.ensures.plays m is) (c.in_ok-is_done.was ∙ ap (λ o. Ok o) c.in_default.is);
  owns = c.test_range.ensures.owns;
}

pub returns : goal.returns
returns g c = record {
  plays = λ m is. lacking (c.loop-pattern.invariant.leads m is);
  owns =
      c.loop-pattern.invariant.owns;
}

pub test_range-requires : goal.test_range-requires
test_range-requires g c = c.loop-pattern.invariant.owns

pub body-requires : goal.body-requires
body-requires g c = c.test_range.ensures.owns
