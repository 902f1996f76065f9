use Rattle.awk_eval.proofs.Going.{each_off, each_on}
use Rattle.awk_forms.proofs.Leading.{quietly}
use Rattle.awk_forms.proofs.Turns.{next_of}
use Rattle.awk_streams.proofs.Chain.{at_once, done, part, stop, turned}
use Rattle.awk_builtins.proofs.Rests.{drop_all}
use Rattle.awk_machine.specs.Pieces.{Do, Each}
use Rattle.awk_program.specs.View.{view_statement}
use Rattle.awk_store.specs.Wholes.{names_in}
use Rattle.std.proofs.Common.{ap, drop, false, map, refl, sym, true, ◌+◌, ◌∙◌, ◌∷◌}
use Rattle.std.proofs.lemmas.Result.{err_from_is_err_and}
use Rattle.awk_eval.proofs.statements.body.Goals as goal

pub loop-x-init : goal.loop-x-init
loop-x-init g c =
    record { leads = λ m is. at_once _ _ _; owns = c.requires.owns }

pub returns-in_err-flow : goal.returns-in_err-flow
returns-in_err-flow g c =
    let e = err_from_is_err_and c.from_residual.result c.from_residual.ensures.1 in
    rw (e.1, e.2) (record {
      plays =
          λ m is. stop _ (λ k. refl)
          (quietly (turned (c.loop-x.invariant.leads m is)
          (λ k. ap (λ ys. Do (Each (map (view_statement (names_in m)) ys)) ∷ k)
          (next_of c.args.xs.now c.loop-x.x-index c.x-item.result c.x-item.is c.loop-x-test.true))) (λ k hid d a. refl))
          (c.one.ensures.plays m is) c.in_err-flow.was;
      owns = c.one.ensures.owns;
    })

pub returns-then-not-is_on : goal.returns-then-not-is_on
returns-then-not-is_on g c =
    record {
      plays = λ m is. done
          (turned (part _ (quietly (turned (c.loop-x.invariant.leads m is)
          (λ k. ap (λ ys. Do (Each (map (view_statement (names_in m)) ys)) ∷ k)
          (next_of c.args.xs.now c.loop-x.x-index c.x-item.result c.x-item.is c.loop-x-test.true))) (λ k hid d a. refl))
          (c.one.ensures.plays m is) c.in_ok-flow.was)
          (λ k. each_off c.in_ok-flow.flow (map (view_statement (names_in m)) (drop (c.loop-x.x-index + 1) c.args.xs.now))
          k (sym c.is_on.ensures ∙ c.if-not-is_on.true)));
      owns = c.one.ensures.owns;
    }

pub loop-x-preserved : goal.loop-x-preserved
loop-x-preserved g c =
    record {
      leads = λ m is.
          (turned (part _ (quietly (turned (c.loop-x.invariant.leads m is)
          (λ k. ap (λ ys. Do (Each (map (view_statement (names_in m)) ys)) ∷ k)
          (next_of c.args.xs.now c.loop-x.x-index c.x-item.result c.x-item.is c.loop-x-test.true))) (λ k hid d a. refl))
          (c.one.ensures.plays m is) c.in_ok-flow.was)
          (λ k. each_on c.in_ok-flow.flow (map (view_statement (names_in m)) (drop (c.loop-x.x-index + 1) c.args.xs.now))
          k (sym c.is_on.ensures ∙ c.if-not-is_on.false)));
      owns = c.one.ensures.owns;
    }

pub returns : goal.returns
returns g c =
    record {
      plays = λ m is. done
          (quietly (turned (c.loop-x.invariant.leads m is)
          (λ k. ap (λ ys. Do (Each (map (view_statement (names_in m)) ys)) ∷ k)
          (drop_all c.args.xs.now c.loop-x.x-index c.loop-x-test.false))) (λ k hid d a. refl));
      owns =
          c.loop-x.invariant.owns;
    }
