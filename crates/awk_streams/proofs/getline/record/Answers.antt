use Rattle.std.proofs.Common.{refl, sym, ap, subst, ◌∙◌, true, false}
use Rattle.std.specs.Prelude.{Ok}
use Rattle.std.proofs.lemmas.Result.{err_from_is_err_and}
use Rattle.awk_fields.specs.Heads.{head}
use Rattle.awk_streams.specs.Readings.{Waits, key_of}
use Rattle.awk_streams.proofs.Chain.{at_once, done, lacking, part, stop}
use Rattle.awk_streams.proofs.Lives.{live_read}
use Rattle.awk_streams.proofs.Leading.{owns_same}
use Rattle.awk_streams.proofs.MoreSteps.{fails, first_opens, first_owns, first_waits, gives, still_reads, waits_first}
use Rattle.awk_streams.proofs.getline.record.Goals as goal

pub loop-init : goal.loop-init
loop-init g c = (λ m s p to form rs. at_once p c.args.streams.now c.args.world.now, c.requires.owns, c.requires.live)

pub returns-in_err-found-clause-task : goal.returns-in_err-found-clause-task
returns-in_err-found-clause-task g c =
    let p = err_from_is_err_and c.from_residual.result c.from_residual.ensures.1 in
    let live = c.loop.invariant.2 in
    rw (p.1, p.2) (λ m s q to form rs. fails _ m s c.args.place (key_of c.args.source.now) c.args.rs.now rs
    c.loop.streams c.first.new.streams live.0 live.1 form (c.loop.invariant.0 m s q to form rs) _
    c.in_err-found.ensures.same (c.in_err-found.ensures.err live.0 live.1))

pub returns-in_err-found-clause-owns : goal.returns-in_err-found-clause-owns
returns-in_err-found-clause-owns g c = owns_same _ c.loop.streams c.first.new.streams c.in_err-found.ensures.same
    c.loop.invariant.1

pub returns-in-Some-clause-task : goal.returns-in-Some-clause-task
returns-in-Some-clause-task g c = λ m s q to form rs.
    let live = c.loop.invariant.2 in
    gives _ m s c.args.place (key_of c.args.source.now) c.args.rs.now rs c.loop.streams c.first.new.streams live.0
    live.1 form (c.loop.invariant.0 m s q to form rs) c.in-Some.found
    (rw c.in-Some.is at (c.in_ok-found.ensures.ok live.0 live.1))

pub returns-in-Some-clause-owns : goal.returns-in-Some-clause-owns
returns-in-Some-clause-owns g c =
    let live = c.loop.invariant.2 in
    first_owns _ (key_of c.args.source.now) c.loop.streams c.first.new.streams live.0
    (head c.args.rs.now live.0.unread live.0.ended) _ (c.in_ok-found.ensures.ok live.0 live.1) c.loop.invariant.1

pub more-requires-clause-owns : goal.more-requires-clause-owns
more-requires-clause-owns g c =
    let live = c.loop.invariant.2 in
    first_owns _ (key_of c.args.source.now) c.loop.streams c.first.new.streams live.0
    (head c.args.rs.now live.0.unread live.0.ended) _ (c.in_ok-found.ensures.ok live.0 live.1) c.loop.invariant.1

pub more-requires-clause-live : goal.more-requires-clause-live
more-requires-clause-live g c =
    let live = c.loop.invariant.2 in
    let x = waits_first (key_of c.args.source.now) c.loop.streams c.first.new.streams live.0
    (head c.args.rs.now live.0.unread live.0.ended) (rw c.in_default.is at (c.in_ok-found.ensures.ok live.0 live.1))
    in
    live_read (key_of c.args.source.now) live.0 c.loop.streams c.first.new.streams x.1

pub more-requires-clause-open : goal.more-requires-clause-open
more-requires-clause-open g c =
    let live = c.loop.invariant.2 in
    (first_waits (key_of c.args.source.now) c.loop.streams c.first.new.streams live.0 c.args.rs.now
    (rw c.in_default.is at (c.in_ok-found.ensures.ok live.0 live.1))).0

pub returns-in_err-more-clause-task : goal.returns-in_err-more-clause-task
returns-in_err-more-clause-task g c =
    let p = err_from_is_err_and c.from_residual-in_err-more.result c.from_residual-in_err-more.ensures.1 in
    let live = c.loop.invariant.2 in
    let key = key_of c.args.source.now in
    let y = rw c.in_default.is at (c.in_ok-found.ensures.ok live.0 live.1) in
    rw (p.1, p.2) (λ m s q to form rs.
    let w = (first_waits key c.loop.streams c.first.new.streams live.0 c.args.rs.now y).1 in
    stop _ (λ k. refl) (still_reads _ m s c.args.place key c.args.rs.now rs c.loop.streams c.first.new.streams live.0
    live.1 form (c.loop.invariant.0 m s q to form rs) y)
    (c.in_err-more.ensures.task m s q to form (subst (λ z. Waits z key c.first.new.streams) (sym rs) w)) refl)

pub returns-then-not-branch-clause-task : goal.returns-then-not-branch-clause-task
returns-then-not-branch-clause-task g c = λ m s q to form rs.
    let live = c.loop.invariant.2 in
    let key = key_of c.args.source.now in
    let y = rw c.in_default.is at (c.in_ok-found.ensures.ok live.0 live.1) in
    let w = (first_waits key c.loop.streams c.first.new.streams live.0 c.args.rs.now y).1 in
    done (part false (still_reads _ m s c.args.place key c.args.rs.now rs c.loop.streams c.first.new.streams live.0
    live.1 form (c.loop.invariant.0 m s q to form rs) y)
    (c.more.ensures.task m s q to form (subst (λ z. Waits z key c.first.new.streams) (sym rs) w))
    (c.in_ok-more.was ∙ ap (λ b. Ok b) c.if-not-branch.true))

pub loop-preserved : goal.loop-preserved
loop-preserved g c = (
  λ m s q to form rs.
      let live = c.loop.invariant.2 in
      let key = key_of c.args.source.now in
      let y = rw c.in_default.is at (c.in_ok-found.ensures.ok live.0 live.1) in
      let w = (first_waits key c.loop.streams c.first.new.streams live.0 c.args.rs.now y).1 in
      part true (still_reads _ m s c.args.place key c.args.rs.now rs c.loop.streams c.first.new.streams live.0 live.1
      form (c.loop.invariant.0 m s q to form rs) y)
      (c.more.ensures.task m s q to form (subst (λ z. Waits z key c.first.new.streams) (sym rs) w))
      (c.in_ok-more.was ∙ ap (λ b. Ok b) c.if-not-branch.false),
  c.more.ensures.owns,
  c.in_ok-more.ensures.live,
)

pub returns-clause-task : goal.returns-clause-task
returns-clause-task g c = λ m s q to form rs. lacking (c.loop.invariant.0 m s q to form rs)

pub returns-in-Some-clause-failed : goal.returns-in-Some-clause-failed
returns-in-Some-clause-failed g c =
    let live = c.loop.invariant.2 in
    first_opens (key_of c.args.source.now) c.loop.streams c.first.new.streams live.0
    (head c.args.rs.now live.0.unread live.0.ended) c.in-Some.found
    (rw c.in-Some.is at (c.in_ok-found.ensures.ok live.0 live.1))

pub returns-then-not-branch-clause-failed : goal.returns-then-not-branch-clause-failed
returns-then-not-branch-clause-failed g c = c.in_ok-more.ensures.failed c.if-not-branch.true
