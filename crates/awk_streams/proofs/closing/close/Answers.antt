use Rattle.std.proofs.Common.{rules, sym, ap, w64, ◌∷◌}
use Rattle.std.proofs.lemmas.Int.{to_z-of_z}
use Rattle.std.proofs.lemmas.Result.{err_from_is_err_and}
use Rattle.std.specs.Prelude.{None, Some, option_map}
use Rattle.awk_text.specs.declared.value.Value.TheVariants.{Num}
use Rattle.awk_machine.specs.Pieces.{Close, Do}
use Rattle.awk_streams.specs.Tables.{kind}
use Rattle.awk_streams.proofs.Asking.{laws_of}
use Rattle.awk_streams.proofs.Chain.{at_once, turned}
use Rattle.awk_streams.proofs.Closes.{close_done, close_duty, close_one, close_refused, first_found, next_so}
use Rattle.awk_streams.proofs.Closes.{owns_closed, shorter}
use Rattle.awk_streams.proofs.closing.close.Goals as goal

pub loop-class-init : goal.loop-class-init
loop-class-init g c = (
  λ m s. at_once (Do (Close c.args.place c.args.text.now None)) c.args.streams.now
      c.args.world.now,
  c.requires,
)

pub shut-requires : goal.shut-requires
shut-requires g c =
    let first = rw c.in-Some.is at c.first_of.ensures in
    close_duty _ c.args.text.now (kind c.in-Some.class) c.in-Some.number c.loop-class.streams
    (sym first) c.loop-class.invariant.1

pub returns-in_err-status-clause-task : goal.returns-in_err-status-clause-task
returns-in_err-status-clause-task g c =
    let p = err_from_is_err_and c.from_residual.result c.from_residual.ensures.1 in
    let first = rw c.in-Some.is at c.first_of.ensures in
    rw (p.1, p.2) (λ m s. close_refused (laws_of g.met.W.World.follows_append g.met.W.World.stops_later
    g.met.W.World.follows_open) m s c.args.place c.args.text.now (option_map (λ n. Num n) c.loop-class.answer)
    c.loop-class.streams
    (kind c.in-Some.class) c.in-Some.number _ _ _ (sym first) c.in_err-status.ensures.answer
    (c.loop-class.invariant.0 m s))

pub returns-in_err-status-clause-owns : goal.returns-in_err-status-clause-owns
returns-in_err-status-clause-owns g c = rw c.in_err-status.ensures.numbers c.loop-class.invariant.1

pub loop-class-smaller : goal.loop-class-smaller
loop-class-smaller g c =
    let first = rw c.in-Some.is at c.first_of.ensures in
    let es = c.remove.ensures.entries in
    rw es (shorter c.args.text.now (kind c.in-Some.class) c.in-Some.number c.loop-class.streams.entries
    (first_found c.args.text.now (kind c.in-Some.class) c.in-Some.number c.loop-class.streams.entries (sym first)))

pub loop-class-preserved : goal.loop-class-preserved
loop-class-preserved g c =
    let first = rw c.in-Some.is at c.first_of.ensures in
    let es = c.remove.ensures.entries in
    let a = c.in_ok-status.ensures.answer in (
      λ m s. rw (to_z-of_z w64 c.first_status.result (search rules))
          (turned (close_one (laws_of g.met.W.World.follows_append g.met.W.World.stops_later g.met.W.World.follows_open)
          m s c.args.place c.args.text.now (option_map (λ n. Num n) c.loop-class.answer)
          c.loop-class.streams c.remove.new.self (kind c.in-Some.class) c.in-Some.number a.0 _ _ (sym first) es
          c.remove.ensures.input a.1 (c.loop-class.invariant.0 m s))
          (λ k. ap (λ x. Do (Close c.args.place c.args.text.now (Some x)) ∷ k)
          (next_so s.numbers c.loop-class.answer c.in_ok-status.status c.first_status.result a.0 a.2
          (rw (to_z-of_z w64 c.in_ok-status.status (search rules)) at c.first_status.ensures)))),
      owns_closed _ _ c.args.text.now (kind c.in-Some.class) c.in-Some.number a.0 c.loop-class.streams c.remove.new.self
          (sym first) es c.in_ok-status.ensures.numbers c.loop-class.invariant.1,
    )

pub returns-clause-task : goal.returns-clause-task
returns-clause-task g c =
    let first = rw c.in_default.is at c.first_of.ensures in
    λ m s. close_done (laws_of g.met.W.World.follows_append g.met.W.World.stops_later g.met.W.World.follows_open) m s
    c.args.place c.args.text.now (option_map (λ n. Num n) c.loop-class.answer) _ c.loop-class.streams
    c.loop-class.world
    c.answer_or.ensures (sym first) (c.loop-class.invariant.0 m s)

pub returns-clause-owns : goal.returns-clause-owns
returns-clause-owns g c = c.loop-class.invariant.1
