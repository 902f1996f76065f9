use Rattle.std.proofs.Common.{rules, w64}
use Rattle.std.proofs.lemmas.Int.{to_z-of_z}
use Rattle.std.proofs.lemmas.Result.{err_from_is_err_and}
use Rattle.awk_streams.proofs.closing.shut.Goals as goal

pub returns-in_err-reply-clause-answer : goal.returns-in_err-reply-clause-answer
returns-in_err-reply-clause-answer g c =
    let p = err_from_is_err_and c.from_residual.result c.from_residual.ensures.1 in
    rw (p.1, p.2) c.in_err-reply.ensures.answer

pub returns-clause-answer : goal.returns-clause-answer
returns-clause-answer g c = (
  c.in_ok-reply.reply,
  c.in_ok-reply.ensures.answer,
  rw (to_z-of_z w64 c.shut_status.result (search rules)) c.shut_status.ensures,
)
