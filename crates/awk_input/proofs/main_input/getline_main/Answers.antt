use Rattle.std.proofs.Common.{refl, [], ◌∷◌}
use Rattle.std.proofs.lemmas.Result.{err_from_is_err_and}
use Rattle.awk_program.specs.Program as p
use Rattle.awk_machine.specs.Pieces.{At, Value_of}
use Rattle.awk_streams.proofs.Chain.{part, passes, stop}
use Rattle.awk_store.specs.Spots.{value_of}
use Rattle.awk_store.proofs.Acting.{acted}
use Rattle.awk_input.proofs.MainSteps.{main_first, main_got}
use Rattle.awk_input.proofs.main_input.getline_main.Goals as goal

pub returns-in_err-answer-clause-task : goal.returns-in_err-answer-clause-task
returns-in_err-answer-clause-task g c =
    let e = err_from_is_err_and c.from_residual.result c.from_residual.ensures.1 in
    rw (e.1, e.2) (λ m h r is. stop _ (λ k. refl) (main_first m r c.args.target c.args.place (
      c.args.store.now,
      c.args.streams.now,
    ) c.args.world.now) (c.in_err-answer.ensures.task m h) refl)

pub returns-clause-task : goal.returns-clause-task
returns-clause-task g c = λ m h r is.
    passes (part c.in_ok-answer.answer (main_first m r c.args.target c.args.place (c.args.store.now, c.args.streams.now)
    c.args.world.now) (c.take.ensures.task m h) c.in_ok-answer.was)
    (acted (c.set_record.ensures.task m (At (Value_of (p.getline c.args.place r))
    (c.in_ok-answer.answer ∷ value_of c.args.target ∷ [])) (λ k. k)
    (main_got m r c.args.target c.args.place c.in_ok-answer.answer is)))
