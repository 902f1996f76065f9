use Rattle.awk_eval.proofs.Going.{keys_off, keys_on}
use Rattle.awk_forms.proofs.Leading.{quietly}
use Rattle.awk_forms.proofs.Turns.{next_of}
use Rattle.awk_streams.proofs.Chain.{at_once, done, lacking, part, stop, turned}
use Rattle.awk_builtins.proofs.Rests.{drop_all}
use Rattle.awk_machine.specs.Pieces.{Do, Keys}
use Rattle.awk_program.specs.View.{variable_of, view_statement}
use Rattle.awk_store.proofs.Acting.{acted}
use Rattle.awk_store.specs.Wholes.{names_in}
use Rattle.std.proofs.Common.{ap, drop, false, refl, sym, true, ◌+◌, ◌∙◌, ◌∷◌}
use Rattle.std.proofs.lemmas.Result.{err_from_is_err_and}
use Rattle.awk_eval.proofs.loops.over.Goals as goal

pub loop-key-init : goal.loop-key-init
loop-key-init g c =
    record { leads = λ m is. at_once _ _ _; owns = c.requires.owns }

pub returns-in_default : goal.returns-in_default
returns-in_default g c =
    record {
      plays = λ m is. lacking
          (quietly (turned (c.loop-key.invariant.leads m is)
          (λ k. ap (λ ys. Do (Keys c.args.place (variable_of (names_in m) c.args.variable)
          (view_statement (names_in m) c.args.inner.now) ys) ∷ k)
          (next_of c.args.keys.now c.loop-key.key-index c.key-item.result c.key-item.is c.loop-key-test.true)))
          (λ k hid d a. refl));
      owns = c.loop-key.invariant.owns;
    }

pub returns-in_err-set_variable : goal.returns-in_err-set_variable
returns-in_err-set_variable g c =
    let e = err_from_is_err_and c.from_residual.result c.from_residual.ensures.1 in
    rw (e.1, e.2) (record {
      plays =
          λ m is. stop _ (λ k. refl)
          (quietly (turned (c.loop-key.invariant.leads m is)
          (λ k. ap (λ ys. Do (Keys c.args.place (variable_of (names_in m) c.args.variable)
          (view_statement (names_in m) c.args.inner.now) ys) ∷ k)
          (next_of c.args.keys.now c.loop-key.key-index c.key-item.result c.key-item.is c.loop-key-test.true)))
          (λ k hid d a. refl)) (acted (rw c.in-Ok.ensures at (c.set_variable.ensures m c.loop-key.run.streams)))
          c.in_err-set_variable.was;
      owns = c.loop-key.invariant.owns;
    })

pub returns-in_err-flow : goal.returns-in_err-flow
returns-in_err-flow g c =
    let e = err_from_is_err_and c.from_residual-in_err-flow.result c.from_residual-in_err-flow.ensures.1 in
    rw (e.1, e.2) (record {
      plays =
          λ m is. stop _ (λ k. refl)
          (part _ (quietly (turned (c.loop-key.invariant.leads m is)
          (λ k. ap (λ ys. Do (Keys c.args.place (variable_of (names_in m) c.args.variable)
          (view_statement (names_in m) c.args.inner.now) ys) ∷ k)
          (next_of c.args.keys.now c.loop-key.key-index c.key-item.result c.key-item.is c.loop-key-test.true)))
          (λ k hid d a. refl)) (acted (rw c.in-Ok.ensures at (c.set_variable.ensures m c.loop-key.run.streams)))
          c.in_ok-set_variable.was) (c.statement.ensures.plays m is) c.in_err-flow.was;
      owns = c.statement.ensures.owns;
    })

pub returns-in-Some : goal.returns-in-Some
returns-in-Some g c =
    record {
      plays = λ m is. done
          (turned (part _ (part _
          (quietly (turned (c.loop-key.invariant.leads m is)
          (λ k. ap (λ ys. Do (Keys c.args.place (variable_of (names_in m) c.args.variable)
          (view_statement (names_in m) c.args.inner.now) ys) ∷ k)
          (next_of c.args.keys.now c.loop-key.key-index c.key-item.result c.key-item.is c.loop-key-test.true)))
          (λ k hid d a. refl)) (acted (rw c.in-Ok.ensures at (c.set_variable.ensures m c.loop-key.run.streams)))
          c.in_ok-set_variable.was) (c.statement.ensures.plays m is) c.in_ok-flow.was)
          (λ k. keys_off c.in_ok-flow.flow c.in-Some.end c.args.place (variable_of (names_in m) c.args.variable)
          (view_statement (names_in m) c.args.inner.now) (drop (c.loop-key.key-index + 1) c.args.keys.now) k
          (sym c.end_of.ensures ∙ c.in-Some.is)));
      owns = c.statement.ensures.owns;
    }

pub loop-key-preserved : goal.loop-key-preserved
loop-key-preserved g c =
    record {
      leads = λ m is.
          (turned (part _ (part _
          (quietly (turned (c.loop-key.invariant.leads m is)
          (λ k. ap (λ ys. Do (Keys c.args.place (variable_of (names_in m) c.args.variable)
          (view_statement (names_in m) c.args.inner.now) ys) ∷ k)
          (next_of c.args.keys.now c.loop-key.key-index c.key-item.result c.key-item.is c.loop-key-test.true)))
          (λ k hid d a. refl)) (acted (rw c.in-Ok.ensures at (c.set_variable.ensures m c.loop-key.run.streams)))
          c.in_ok-set_variable.was) (c.statement.ensures.plays m is) c.in_ok-flow.was)
          (λ k. keys_on c.in_ok-flow.flow c.args.place (variable_of (names_in m) c.args.variable)
          (view_statement (names_in m) c.args.inner.now) (drop (c.loop-key.key-index + 1) c.args.keys.now) k
          (sym c.end_of.ensures ∙ c.in_default-end_of.is)));
      owns = c.statement.ensures.owns;
    }

pub returns : goal.returns
returns g c =
    record {
      plays = λ m is. done
          (quietly (turned (c.loop-key.invariant.leads m is)
          (λ k. ap (λ ys. Do (Keys c.args.place (variable_of (names_in m) c.args.variable)
          (view_statement (names_in m) c.args.inner.now) ys) ∷ k)
          (drop_all c.args.keys.now c.loop-key.key-index c.loop-key-test.false))) (λ k hid d a. refl));
      owns =
          c.loop-key.invariant.owns;
    }
