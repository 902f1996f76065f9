use Rattle.std.proofs.Common.{refl}
use Rattle.std.proofs.lemmas.Result.{err_from_is_err_and}
use Rattle.awk_text.specs.Lents.{lent_value}
use Rattle.awk_streams.proofs.Chain.{at_once, part, passes, stop}
use Rattle.awk_store.specs.Spots.{value_of}
use Rattle.awk_store.proofs.Acting.{acted}
use Rattle.awk_input.proofs.getline.getline_pipe.Goals as goal

pub returns-in_err-answer-clause-task : goal.returns-in_err-answer-clause-task
returns-in_err-answer-clause-task g c =
    let e = err_from_is_err_and c.from_residual.result c.from_residual.ensures.1 in
    rw (e.1, e.2) (λ m r xs is. stop _ (λ k. refl) (at_once _ (c.args.store.now, c.args.streams.now) c.args.world.now)
    (c.in_err-answer.ensures.task m r xs (value_of c.args.target)) refl)

pub returns-clause-task : goal.returns-clause-task
returns-clause-task g c = λ m r xs is.
    passes (part c.in_ok-answer.answer (at_once _ (c.args.store.now, c.args.streams.now) c.args.world.now)
    (c.command_record.ensures.task m r xs (value_of c.args.target)) c.in_ok-answer.was)
    (acted (c.set_from_command.ensures.task m r xs (lent_value c.args.command) is))
