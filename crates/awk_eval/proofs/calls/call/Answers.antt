use Rattle.awk_eval.proofs.Calling.{body_so, called, counted}
use Rattle.awk_forms.proofs.Leading.{quietly}
use Rattle.awk_streams.proofs.Chain.{at_once, done, part, stop, turned}
use Rattle.awk_store.proofs.Ending.{answers, answers_so, returns_to}
use Rattle.awk_store.proofs.Leading.{takes}
use Rattle.awk_machine.specs.Pieces.{Call, Do, Each, Step, give}
use Rattle.awk_program.specs.View.{view_arguments, view_statement}
use Rattle.awk_store.proofs.Acting.{acted}
use Rattle.awk_store.specs.Calling.{ending}
use Rattle.awk_store.specs.Wholes.{names_in}
use Rattle.std.proofs.Common.{ap, map, refl, sym, ◌∙◌, ◌∷◌}
use Rattle.std.proofs.lemmas.Result.{err_from_is_err_and}
use Rattle.awk_eval.proofs.calls.call.Goals as goal

pub returns-in_err-values : goal.returns-in_err-values
returns-in_err-values g c =
    let e = err_from_is_err_and c.from_residual.result c.from_residual.ensures.1 in
    rw (e.1, e.2) (record {
      plays = λ m is. stop _ (λ k. refl) (at_once _ _ _)
          (c.arguments.ensures.plays.plays m is c.args.place c.args.f) c.in_err-values.was;
      owns =
          c.arguments.ensures.plays.owns;
    })

pub returns-in_err-step : goal.returns-in_err-step
returns-in_err-step g c =
    let e = err_from_is_err_and c.from_residual-in_err-step.result c.from_residual-in_err-step.ensures.1 in
    rw (e.1, e.2) (record {
      plays =
          λ m is. stop _ (λ k. refl)
          (quietly {then_ = λ k. Do Step ∷ Do (Call c.args.place c.args.f (view_arguments (names_in m) c.args.xs.now)
          c.in_ok-values.values) ∷ k} (part _ (at_once _ _ _) (c.arguments.ensures.plays.plays m is c.args.place c.args.f)
          c.in_ok-values.was) (λ k hid d a. called m c.args.place c.args.f (view_arguments (names_in m) c.args.xs.now)
          c.in_ok-values.values (counted (names_in m) c.args.xs.now c.in_ok-values.values c.in_ok-values.ensures.count) k
          _)) (takes (is.host.bound ∙ sym c.bound.ensures) (c.step.ensures c.arguments.new.run.streams))
          c.in_err-step.was;
      owns = c.arguments.ensures.plays.owns;
    })

pub returns-in_err-caller : goal.returns-in_err-caller
returns-in_err-caller g c =
    let e = err_from_is_err_and c.from_residual-in_err-caller.result c.from_residual-in_err-caller.ensures.1 in
    rw (e.1, e.2) (record {
      plays =
          λ m is. stop _ (λ k. refl)
          (part _ (quietly {then_ =
          λ k. Do Step ∷ Do (Call c.args.place c.args.f (view_arguments (names_in m) c.args.xs.now) c.in_ok-values.values)
          ∷ k} (part _ (at_once _ _ _) (c.arguments.ensures.plays.plays m is c.args.place c.args.f) c.in_ok-values.was)
          (λ k hid d a. called m c.args.place c.args.f (view_arguments (names_in m) c.args.xs.now) c.in_ok-values.values
          (counted (names_in m) c.args.xs.now c.in_ok-values.values c.in_ok-values.ensures.count) k _))
          (takes (is.host.bound ∙ sym c.bound.ensures) (c.step.ensures c.arguments.new.run.streams)) c.in_ok-step.was)
          (acted (c.begin.ensures m c.arguments.new.run.streams is.program)) c.in_err-caller.was;
      owns =
          c.arguments.ensures.plays.owns;
    })

pub returns-in_err-flow : goal.returns-in_err-flow
returns-in_err-flow g c =
    let e = err_from_is_err_and c.from_residual-in_err-flow.result c.from_residual-in_err-flow.ensures.1 in
    rw (e.1, e.2) (record {
      plays =
          λ m is. stop _ (λ k. refl)
          (turned {then_ = λ k. Do (Each (map (view_statement (names_in m)) c.body_of.result.now)) ∷ ending m
          c.in_ok-caller.caller k}
          (part _ (part _ (quietly {then_ =
          λ k. Do Step ∷ Do (Call c.args.place c.args.f (view_arguments (names_in m) c.args.xs.now) c.in_ok-values.values)
          ∷ k} (part _ (at_once _ _ _) (c.arguments.ensures.plays.plays m is c.args.place c.args.f) c.in_ok-values.was)
          (λ k hid d a. called m c.args.place c.args.f (view_arguments (names_in m) c.args.xs.now) c.in_ok-values.values
          (counted (names_in m) c.args.xs.now c.in_ok-values.values c.in_ok-values.ensures.count) k _))
          (takes (is.host.bound ∙ sym c.bound.ensures) (c.step.ensures c.arguments.new.run.streams)) c.in_ok-step.was)
          (acted (c.begin.ensures m c.arguments.new.run.streams is.program)) c.in_ok-caller.was)
          (λ k. ap (λ ys. Do (Each ys) ∷ ending m c.in_ok-caller.caller k)
          (body_so m c.args.cx.now is c.args.f c.body_of.result.now c.body_of.ensures))) (c.body.ensures.plays m is)
          c.in_err-flow.was;
      owns = c.body.ensures.owns;
    })

pub returns : goal.returns
returns g c =
    record {
      plays = λ m is. rw c.returned.ensures
          (done (turned (part (tt {0})
          (turned (part _ (turned {then_ = λ k. Do (Each (map (view_statement (names_in m)) c.body_of.result.now)) ∷
          ending m c.in_ok-caller.caller k}
          (part _ (part _ (quietly {then_ =
          λ k. Do Step ∷ Do (Call c.args.place c.args.f (view_arguments (names_in m) c.args.xs.now) c.in_ok-values.values)
          ∷ k} (part _ (at_once _ _ _) (c.arguments.ensures.plays.plays m is c.args.place c.args.f) c.in_ok-values.was)
          (λ k hid d a. called m c.args.place c.args.f (view_arguments (names_in m) c.args.xs.now) c.in_ok-values.values
          (counted (names_in m) c.args.xs.now c.in_ok-values.values c.in_ok-values.ensures.count) k _))
          (takes (is.host.bound ∙ sym c.bound.ensures) (c.step.ensures c.arguments.new.run.streams)) c.in_ok-step.was)
          (acted (c.begin.ensures m c.arguments.new.run.streams is.program)) c.in_ok-caller.was)
          (λ k. ap (λ ys. Do (Each ys) ∷ ending m c.in_ok-caller.caller k)
          (body_so m c.args.cx.now is c.args.f c.body_of.result.now c.body_of.ensures))) (c.body.ensures.plays m is)
          c.in_ok-flow.was) (λ k. returns_to m c.in_ok-caller.caller c.in_ok-flow.flow k))
          (acted (c.leave.ensures m c.body.new.run.streams (answers c.in_ok-flow.flow))) refl)
          (λ k. ap (λ x. give x k) (answers_so c.in_ok-flow.flow))));
      owns = c.body.ensures.owns;
    }
