use Rattle.std.proofs.Common.{sym, ◌∙◌}
use Rattle.std.proofs.lemmas.Result.{err_from_is_err_and}
use Rattle.awk_streams.proofs.Asking.{laws_of}
use Rattle.awk_streams.proofs.Chain.{done}
use Rattle.awk_streams.proofs.Lives.{some_at}
use Rattle.awk_input.proofs.FileSteps.{none_at, operand_asked, operand_known, operand_refused}
use Rattle.awk_input.proofs.files.open_file.Goals as goal

pub returns-then-is_some-clause-task : goal.returns-then-is_some-clause-task
returns-then-is_some-clause-task g c = λ m is k p old mv.
    let n = some_at c.number.result (sym c.is_some.ensures ∙ c.if-is_some.true) in
    done (operand_known (laws_of g.met.W.World.follows_append g.met.W.World.stops_later g.met.W.World.follows_open) m
    c.args.host.now is c.args.text.now p old k c.args.streams.now mv n.0 c.args.world.now (sym c.number.ensures
    ∙ n.1))

pub open-requires-clause-new : goal.open-requires-clause-new
open-requires-clause-new g c = sym c.number.ensures ∙ none_at c.number.result (sym c.is_some.ensures
    ∙ c.if-is_some.false)

pub returns-in_err-found-clause-task : goal.returns-in_err-found-clause-task
returns-in_err-found-clause-task g c =
    let e = err_from_is_err_and c.from_residual.result c.from_residual.ensures.1 in
    rw (e.1, e.2) (λ m is k p old mv.
    let x = rw c.is_given.ensures at c.in_err-found.ensures.opens in
    operand_refused (laws_of g.met.W.World.follows_append g.met.W.World.stops_later g.met.W.World.follows_open) m
    c.args.host.now is c.args.text.now p old k c.args.streams.now mv _ c.open.new.streams c.args.world.now
    c.open.new.world
    (sym c.number.ensures ∙ none_at c.number.result (sym c.is_some.ensures ∙ c.if-is_some.false)) x.0)

pub returns-clause-task : goal.returns-clause-task
returns-clause-task g c = λ m is k p old mv.
    let x = rw c.is_given.ensures at c.in_ok-found.ensures.opens in
    rw c.is_some-2.ensures
    (done (operand_asked (laws_of g.met.W.World.follows_append g.met.W.World.stops_later g.met.W.World.follows_open)
    m c.args.host.now is c.args.text.now p old k c.args.streams.now mv c.in_ok-found.found c.open.new.streams
    c.args.world.now c.open.new.world
    (sym c.number.ensures ∙ none_at c.number.result (sym c.is_some.ensures ∙ c.if-is_some.false)) x))
