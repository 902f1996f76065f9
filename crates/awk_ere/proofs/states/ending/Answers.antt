use Rattle.std.proofs.Common.{◌≡◌, ◌↔◌, true, sym, subst, arith}
use Rattle.awk_ere.specs.Closure.{IsClosedList}
use Rattle.awk_ere.specs.Table.{steps_of, AreFlags, EndsAtLast}
use Rattle.awk_ere.proofs.Gathering.{flags_begin, flags_push}
use Rattle.awk_ere.proofs.states.ending.Goals as goal

pub loop-at-init : goal.loop-at-init
loop-at-init c = record { flags = rw c.in_ok-flags.ensures.items (flags_begin _); room = c.requires.room }

pub loop-at-preserved : goal.loop-at-preserved
loop-at-preserved c = record {
  flags = flags_push (λ q. EndsAtLast c.args.program.now (steps_of c.args.lists.now q)) _ _ _ c.in_ok-flag.flag
      c.in_ok-push.ensures.items
      (subst (λ x. (c.in_ok-flag.flag ≡ true) ↔ EndsAtLast c.args.program.now x) c.list.ensures
      c.in_ok-flag.ensures.ends) c.loop-at.invariant.flags;
  room = c.in_ok-flag.ensures.room;
}

pub returns : goal.returns
returns c = subst (λ n. AreFlags (λ q. EndsAtLast c.args.program.now (steps_of c.args.lists.now q)) n
    c.loop-at.flags.items) (omega arith) c.loop-at.invariant.flags

pub state_ends-requires-clause-closed : goal.state_ends-requires-clause-closed
state_ends-requires-clause-closed c = subst (λ x. IsClosedList c.args.program.now x) (sym c.list.ensures)
    (c.requires.closed c.loop-at.at (omega (arith, c.loop-at-test.true, c.requires.inside)))
