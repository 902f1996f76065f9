use Rattle.std.proofs.Common.{refl, sym, ◌∙◌, map}
use Rattle.std.proofs.lemmas.Result.{err_from_is_err_and}
use Rattle.awk_program.specs.View.{view, view_statement}
use Rattle.awk_store.specs.Wholes.{names_in}
use Rattle.awk_streams.proofs.Chain.{at_once, done, part, passes, stop}
use Rattle.awk_forms.proofs.Leading.{quietly, told_truth}
use Rattle.awk_run.proofs.RuleSteps.{holds_off, holds_on}
use Rattle.awk_run.proofs.rules.where_holds.Goals as goal

pub returns-in_err-holds : goal.returns-in_err-holds
returns-in_err-holds g c =
    let e = err_from_is_err_and c.from_residual.result c.from_residual.ensures.1 in
    rw (e.1, e.2) (record {
      plays = λ m is. stop _ (λ k. refl) (quietly (at_once _ _ _) (λ k hid d a. refl))
          (c.truth_of.ensures.does.plays m is) c.in_err-holds.was;
      owns = c.truth_of.ensures.does.owns;
    })

pub returns-then-not-holds : goal.returns-then-not-holds
returns-then-not-holds g c = record {
  plays = λ m is. done (quietly {then_ = λ k. k} (part _ (quietly (at_once _ _ _) (λ k hid d a. refl))
      (c.truth_of.ensures.does.plays m is) c.in_ok-holds.was)
      (λ k hid d a. holds_off m c.args.n (view (names_in m) c.args.pattern.now)
      (map (view_statement (names_in m)) c.args.action.now) c.truth_of.ensures.val k _
      (sym (told_truth _ c.truth_of.ensures.val _ _ c.in_ok-holds.was c.truth_of.ensures.is) ∙ c.if-not-holds.true)));
  owns = c.truth_of.ensures.does.owns;
}

pub returns : goal.returns
returns g c = record {
  plays = λ m is. passes
      (quietly (part _ (quietly (at_once _ _ _) (λ k hid d a. refl)) (c.truth_of.ensures.does.plays m is)
      c.in_ok-holds.was)
      (λ k hid d a. holds_on m c.args.n (view (names_in m) c.args.pattern.now)
      (map (view_statement (names_in m)) c.args.action.now) c.truth_of.ensures.val k _
      (sym (told_truth _ c.truth_of.ensures.val _ _ c.in_ok-holds.was c.truth_of.ensures.is) ∙ c.if-not-holds.false)))
      (c.body.ensures.plays m is);
  owns = c.body.ensures.owns;
}
