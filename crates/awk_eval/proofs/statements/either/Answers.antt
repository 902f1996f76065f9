use Rattle.awk_eval.proofs.Going.{either_off, either_on}
use Rattle.awk_forms.proofs.Leading.{quietly, told_truth}
use Rattle.awk_streams.proofs.Chain.{at_once, part, passes, stop}
use Rattle.awk_program.specs.View.{view, view_statement}
use Rattle.awk_store.specs.Wholes.{names_in}
use Rattle.std.proofs.Common.{false, refl, sym, true, ◌∙◌}
use Rattle.std.proofs.lemmas.Result.{err_from_is_err_and}
use Rattle.awk_eval.proofs.statements.either.Goals as goal

pub returns-in_err-holds : goal.returns-in_err-holds
returns-in_err-holds g c =
    let e = err_from_is_err_and c.from_residual.result c.from_residual.ensures.1 in
    rw (e.1, e.2) (record {
      plays = λ m is. stop _ (λ k. refl) (quietly (at_once _ _ _) (λ k hid d a. refl))
          (c.truth_of.ensures.does.plays m is) c.in_err-holds.was;
      owns = c.truth_of.ensures.does.owns;
    })

pub returns-then-holds : goal.returns-then-holds
returns-then-holds g c =
    record {
      plays = λ m is. passes
          (quietly (part _ (quietly (at_once _ _ _) (λ k hid d a. refl)) (c.truth_of.ensures.does.plays m is)
          c.in_ok-holds.was) (λ k hid d a. either_on m (view (names_in m) c.args.test.now)
          (view_statement (names_in m) c.args.then.now) (view_statement (names_in m) c.args.other.now)
          c.truth_of.ensures.val k _ (sym (told_truth _ c.truth_of.ensures.val _ _ c.in_ok-holds.was c.truth_of.ensures.is)
          ∙ c.if-holds.true))) (c.statement.ensures.plays m is);
      owns = c.statement.ensures.owns;
    }

pub returns-else-holds : goal.returns-else-holds
returns-else-holds g c =
    record {
      plays = λ m is. passes
          (quietly (part _ (quietly (at_once _ _ _) (λ k hid d a. refl)) (c.truth_of.ensures.does.plays m is)
          c.in_ok-holds.was) (λ k hid d a. either_off m (view (names_in m) c.args.test.now)
          (view_statement (names_in m) c.args.then.now) (view_statement (names_in m) c.args.other.now)
          c.truth_of.ensures.val k _ (sym (told_truth _ c.truth_of.ensures.val _ _ c.in_ok-holds.was c.truth_of.ensures.is)
          ∙ c.if-holds.false))) (c.statement-else-holds.ensures.plays m is);
      owns = c.statement-else-holds.ensures.owns;
    }
