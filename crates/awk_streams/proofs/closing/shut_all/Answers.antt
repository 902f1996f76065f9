use Rattle.std.proofs.Common.{sym, ◌∙◌}
use Rattle.std.proofs.lemmas.Result.{err_from_is_err_and}
use Rattle.awk_machine.specs.Pieces.{Closing, Do}
use Rattle.awk_streams.proofs.Asking.{laws_of}
use Rattle.awk_streams.proofs.Chain.{at_once, done}
use Rattle.awk_streams.proofs.Shut.{first_duty, first_none, first_owns, shut_one, shut_refused}
use Rattle.awk_streams.proofs.closing.shut_all.Goals as goal

pub loop-number-init : goal.loop-number-init
loop-number-init g c = (λ m s o. at_once (Do (Closing o)) c.args.streams.now c.args.world.now, c.requires)

pub request-requires : goal.request-requires
request-requires g c = first_duty _ c.loop-number.streams c.in-Some.number (sym c.first_number.ensures ∙ c.in-Some.is)
    c.loop-number.invariant.1

pub returns-in_err-request-clause-task : goal.returns-in_err-request-clause-task
returns-in_err-request-clause-task g c =
    let p = err_from_is_err_and c.from_residual.result c.from_residual.ensures.1 in
    rw (p.1, p.2) (λ m s o. shut_refused (laws_of g.met.W.World.follows_append g.met.W.World.stops_later
    g.met.W.World.follows_open) m s o c.loop-number.any c.loop-number.streams c.in-Some.number _ _ _
    (sym c.first_number.ensures ∙ c.in-Some.is) c.in_err-request.ensures.answer (c.loop-number.invariant.0 m s o))

pub loop-number-preserved : goal.loop-number-preserved
loop-number-preserved g c =
    let first = sym c.first_number.ensures ∙ c.in-Some.is in (
      λ m s o. shut_one (laws_of g.met.W.World.follows_append g.met.W.World.stops_later g.met.W.World.follows_open) m s
          o c.loop-number.any c.loop-number.streams c.remove_first.new.self c.in-Some.number c.in_ok-request.field-0 _ _
          first c.remove_first.ensures.entries c.remove_first.ensures.input c.in_ok-request.ensures.answer
          (c.loop-number.invariant.0 m s o),
      first_owns _ _ c.loop-number.streams c.remove_first.new.self c.in-Some.number c.in_ok-request.field-0 first
          c.remove_first.ensures.entries c.in_ok-request.ensures.numbers c.loop-number.invariant.1,
    )

pub returns-clause-task : goal.returns-clause-task
returns-clause-task g c = λ m s o. done (c.loop-number.invariant.0 m s o)

pub returns-clause-none : goal.returns-clause-none
returns-clause-none g c = first_none c.loop-number.streams.entries (sym c.first_number.ensures ∙ c.in_default.is)
