use Rattle.std.proofs.Common.{sym, ◌∙◌}
use Rattle.std.proofs.lemmas.Result.{err_from_is_err_and}
use Rattle.awk_streams.proofs.Asking.{laws_of}
use Rattle.awk_streams.proofs.Chain.{done, passes, turned}
use Rattle.awk_store.proofs.Acting.{acted}
use Rattle.awk_input.proofs.AssignSteps.{assign_refused, assigns, denied_so, sets_so}
use Rattle.awk_input.proofs.Restored.{lacks_at}
use Rattle.awk_input.proofs.assigns.assign.Goals as goal

pub returns-in_default-clause-task : goal.returns-in_default-clause-task
returns-in_default-clause-task g c = λ m is t p old mv. lacks_at mv

pub returns-in_err-reply-clause-task : goal.returns-in_err-reply-clause-task
returns-in_err-reply-clause-task g c =
    let e = err_from_is_err_and c.from_residual.result c.from_residual.ensures.1 in
    rw (e.1, e.2) (λ m is t p old mv.
    let x = rw (c.in-Ok.ensures.name, c.in-Ok.ensures.text, c.is_given-given.ensures) at c.in_err-reply.ensures.answer
    in
    assign_refused (laws_of g.met.W.World.follows_append g.met.W.World.stops_later g.met.W.World.follows_open) m
    c.args.host.now is c.args.operand.whole.now c.args.operand.name.now c.args.operand.text.now p old
    (c.args.store.now, t) mv _ c.args.world.now c.request.new.world x)

pub returns-then-not-is_done-clause-task : goal.returns-then-not-is_done-clause-task
returns-then-not-is_done-clause-task g c = λ m is t p old mv.
    let x = rw (c.in-Ok.ensures.name, c.in-Ok.ensures.text, c.is_given-given.ensures) at c.in_ok-reply.ensures.answer in
    done (turned (assigns (laws_of g.met.W.World.follows_append g.met.W.World.stops_later g.met.W.World.follows_open) m
    c.args.host.now is c.args.operand.whole.now c.args.operand.name.now c.args.operand.text.now p old
    (c.args.store.now, t) mv c.in_ok-reply.reply c.args.world.now c.request.new.world x)
    (λ k. denied_so c.args.operand.name.now c.args.operand.text.now k c.in_ok-reply.reply (sym c.is_done.ensures
    ∙ c.if-not-is_done.true)))

pub returns-clause-task : goal.returns-clause-task
returns-clause-task g c = λ m is t p old mv.
    let x = rw (c.in-Ok.ensures.name, c.in-Ok.ensures.text, c.is_given-given.ensures) at c.in_ok-reply.ensures.answer in
    passes (turned (assigns (laws_of g.met.W.World.follows_append g.met.W.World.stops_later g.met.W.World.follows_open)
    m c.args.host.now is c.args.operand.whole.now c.args.operand.name.now c.args.operand.text.now p old
    (c.args.store.now, t) mv c.in_ok-reply.reply c.args.world.now c.request.new.world x)
    (λ k. sets_so c.args.operand.name.now c.args.operand.text.now k c.in_ok-reply.reply (sym c.is_done.ensures
    ∙ c.if-not-is_done.false)))
    (acted (rw c.in-Ok.ensures.value at (c.set_named.ensures m is t)))
