use Rattle.awk_eval.proofs.Going.{turn_off, turn_on}
use Rattle.awk_forms.proofs.Leading.{quietly}
use Rattle.awk_eval.specs.Loops.{loop_of}
use Rattle.awk_streams.proofs.Chain.{at_once, done, part, passes, stop, turned}
use Rattle.awk_store.specs.Wholes.{names_in}
use Rattle.std.proofs.Common.{refl, sym, ◌∙◌}
use Rattle.std.proofs.lemmas.Result.{err_from_is_err_and}
use Rattle.std.specs.Prelude.{None, Some}
use Rattle.awk_eval.proofs.loops.turn_first.Goals as goal

pub returns-in_err-flow : goal.returns-in_err-flow
returns-in_err-flow g c =
    let e = err_from_is_err_and c.from_residual.result c.from_residual.ensures.1 in
    rw (e.1, e.2) (record {
      plays = λ m is. stop _ (λ k. refl) (quietly (at_once _ _ _) (λ k hid d a. refl))
          (c.statement.ensures.plays m is) c.in_err-flow.was;
      owns = c.statement.ensures.owns;
    })

pub returns-in-Some : goal.returns-in-Some
returns-in-Some g c =
    record {
      plays = λ m is. done
          (turned (part _ (quietly (at_once _ _ _) (λ k hid d a. refl)) (c.statement.ensures.plays m is) c.in_ok-flow.was)
          (λ k. turn_off c.in_ok-flow.flow c.in-Some.end (loop_of (names_in m) (Some c.args.test.now) c.args.inner.now
          None) k (sym c.end_of.ensures ∙ c.in-Some.is)));
      owns = c.statement.ensures.owns;
    }

pub returns-in_err-behind : goal.returns-in_err-behind
returns-in_err-behind g c =
    let e = err_from_is_err_and c.from_residual-in_err-behind.result c.from_residual-in_err-behind.ensures.1 in
    rw (e.1, e.2) (record {
      plays =
          λ m is. stop _ (λ k. refl)
          (turned (part _ (quietly (at_once _ _ _) (λ k hid d a. refl)) (c.statement.ensures.plays m is) c.in_ok-flow.was)
          (λ k. turn_on c.in_ok-flow.flow (loop_of (names_in m) (Some c.args.test.now) c.args.inner.now None) k
          (sym c.end_of.ensures ∙ c.in_default.is))) (c.behind.ensures.plays m is) c.in_err-behind.was;
      owns =
          c.behind.ensures.owns;
    })

pub returns : goal.returns
returns g c =
    record {
      plays = λ m is. passes
          (part _ (turned (part _ (quietly (at_once _ _ _) (λ k hid d a. refl)) (c.statement.ensures.plays m is)
          c.in_ok-flow.was) (λ k. turn_on c.in_ok-flow.flow (loop_of (names_in m) (Some c.args.test.now) c.args.inner.now
          None) k (sym c.end_of.ensures ∙ c.in_default.is))) (c.behind.ensures.plays m is) c.in_ok-behind.was)
          (c.turns.ensures.plays m is);
      owns = c.turns.ensures.owns;
    }
