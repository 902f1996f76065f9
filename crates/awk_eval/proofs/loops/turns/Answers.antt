use Rattle.awk_eval.proofs.Going.{turn_off, turn_on}
use Rattle.awk_eval.specs.Loops.{loop_of, tested}
use Rattle.awk_streams.proofs.Chain.{at_once, done, lacking, part, stop, turned}
use Rattle.awk_store.specs.Wholes.{names_in}
use Rattle.std.proofs.Common.{ap, false, refl, sym, true, ◌∙◌}
use Rattle.std.proofs.lemmas.Result.{err_from_is_err_and}
use Rattle.std.specs.Prelude.{option_copied}
use Rattle.awk_eval.proofs.loops.turns.Goals as goal

pub loop-turn-init : goal.loop-turn-init
loop-turn-init g c =
    record { leads = λ m is. at_once _ _ _; owns = c.requires.owns }

pub returns-in_err-goes_on : goal.returns-in_err-goes_on
returns-in_err-goes_on g c =
    let e = err_from_is_err_and c.from_residual.result c.from_residual.ensures.1 in
    rw (e.1, e.2) (record {
      plays = λ m is. stop _ (λ k. refl) (c.loop-turn.invariant.leads m is)
          (c.holds.ensures.plays m is) c.in_err-goes_on.was;
      owns = c.holds.ensures.owns;
    })

pub returns-then-not-goes_on : goal.returns-then-not-goes_on
returns-then-not-goes_on g c =
    record {
      plays = λ m is. done
          (turned (part _ (c.loop-turn.invariant.leads m is) (c.holds.ensures.plays m is) c.in_ok-goes_on.was)
          (λ k. ap (λ b. tested (loop_of (names_in m) (option_copied c.args.test) c.args.inner.now
          (option_copied c.args.after)) b k) c.if-not-goes_on.true));
      owns = c.holds.ensures.owns;
    }

pub returns-in_err-flow : goal.returns-in_err-flow
returns-in_err-flow g c =
    let e = err_from_is_err_and c.from_residual-in_err-flow.result c.from_residual-in_err-flow.ensures.1 in
    rw (e.1, e.2) (record {
      plays =
          λ m is. stop _ (λ k. refl)
          (turned (part _ (c.loop-turn.invariant.leads m is) (c.holds.ensures.plays m is) c.in_ok-goes_on.was)
          (λ k. ap (λ b. tested (loop_of (names_in m) (option_copied c.args.test) c.args.inner.now
          (option_copied c.args.after)) b k) c.if-not-goes_on.false)) (c.statement.ensures.plays m is) c.in_err-flow.was;
      owns = c.statement.ensures.owns;
    })

pub returns-in-Some : goal.returns-in-Some
returns-in-Some g c =
    record {
      plays = λ m is. done
          (turned (part _ (turned (part _ (c.loop-turn.invariant.leads m is) (c.holds.ensures.plays m is)
          c.in_ok-goes_on.was) (λ k. ap (λ b. tested (loop_of (names_in m) (option_copied c.args.test) c.args.inner.now
          (option_copied c.args.after)) b k) c.if-not-goes_on.false)) (c.statement.ensures.plays m is) c.in_ok-flow.was)
          (λ k. turn_off c.in_ok-flow.flow c.in-Some.end
          (loop_of (names_in m) (option_copied c.args.test) c.args.inner.now (option_copied c.args.after)) k
          (sym c.end_of.ensures ∙ c.in-Some.is)));
      owns = c.statement.ensures.owns;
    }

pub returns-in_err-behind : goal.returns-in_err-behind
returns-in_err-behind g c =
    let e = err_from_is_err_and c.from_residual-in_err-behind.result c.from_residual-in_err-behind.ensures.1 in
    rw (e.1, e.2) (record {
      plays =
          λ m is. stop _ (λ k. refl)
          (turned (part _ (turned (part _ (c.loop-turn.invariant.leads m is) (c.holds.ensures.plays m is)
          c.in_ok-goes_on.was) (λ k. ap (λ b. tested (loop_of (names_in m) (option_copied c.args.test) c.args.inner.now
          (option_copied c.args.after)) b k) c.if-not-goes_on.false)) (c.statement.ensures.plays m is) c.in_ok-flow.was)
          (λ k. turn_on c.in_ok-flow.flow (loop_of (names_in m) (option_copied c.args.test) c.args.inner.now
          (option_copied c.args.after)) k (sym c.end_of.ensures ∙ c.in_default.is))) (c.behind.ensures.plays m is)
          c.in_err-behind.was;
      owns = c.behind.ensures.owns;
    })

pub loop-turn-preserved : goal.loop-turn-preserved
loop-turn-preserved g c =
    record {
      leads = λ m is.
          (part _ (turned (part _
          (turned (part _ (c.loop-turn.invariant.leads m is) (c.holds.ensures.plays m is) c.in_ok-goes_on.was)
          (λ k. ap (λ b. tested (loop_of (names_in m) (option_copied c.args.test) c.args.inner.now
          (option_copied c.args.after)) b k) c.if-not-goes_on.false)) (c.statement.ensures.plays m is) c.in_ok-flow.was)
          (λ k. turn_on c.in_ok-flow.flow (loop_of (names_in m) (option_copied c.args.test) c.args.inner.now
          (option_copied c.args.after)) k (sym c.end_of.ensures ∙ c.in_default.is))) (c.behind.ensures.plays m is)
          c.in_ok-behind.was);
      owns = c.behind.ensures.owns;
    }

pub returns : goal.returns
returns g c =
    record { plays = λ m is. lacking (c.loop-turn.invariant.leads m is); owns = c.loop-turn.invariant.owns }
