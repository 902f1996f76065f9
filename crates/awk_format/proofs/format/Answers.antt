use Rattle.std.proofs.Common.{◌∙◌, ⊎_elim, inl, inr, arith}
use Rattle.std.proofs.lemmas.List.{take_rest}
use Rattle.std.proofs.lemmas.Result.{err_from_is_err_and}
use Rattle.awk_format.proofs.Steps.{next_fault, next_step, plain_step}
use Rattle.awk_format.proofs.format.Goals as goal

pub loop-rest-preserved-then-after-lt1 : goal.loop-rest-preserved-then-after-lt1
loop-rest-preserved-then-after-lt1 c =
    rw c.in_ok-push.ensures (rw c.split_at.ensures.front (rw c.split_at.ensures.back (
    plain_step c.args.numbers c.loop-rest.out c.loop-rest.rest.now c.loop-rest.values.now c.plain_length.result
    c.plain_length.ensures.length ∙ c.loop-rest.invariant)))

pub returns-in_err-text-clause-err : goal.returns-in_err-text-clause-err
returns-in_err-text-clause-err c =
    let p = err_from_is_err_and c.from_residual-in_err-text.result c.from_residual-in_err-text.ensures.1 in
    let back = c.split_at.result.1.now in
    rw (p.1, p.2) (⊎_elim inl
    (λ failed. inr (next_fault c.args.numbers c.loop-rest.out c.loop-rest.rest.now back _ c.loop-rest.values.now
    c.plain_length.result _ _ c.plain_length.ensures.length c.split_at.ensures.back (omega arith) (take_rest back 1)
    failed c.loop-rest.invariant)) c.in_err-text.ensures.err)

pub loop-rest-preserved : goal.loop-rest-preserved
loop-rest-preserved c =
    let back = c.split_at.result.1.now in
    next_step c.args.numbers c.loop-rest.out c.push.new.self c.show_piece.new.out c.loop-rest.rest.now
    c.split_at.result.0.now back _
    c.in_ok-text.text.now c.loop-rest.values.now c.in_ok-text.others.now c.plain_length.result _
    c.plain_length.ensures.length c.split_at.ensures.front c.split_at.ensures.back (omega arith) (take_rest back 1)
    c.in_ok-push.ensures c.in_ok-text.ensures.ok c.loop-rest.invariant
