use Rattle.std.proofs.Common.{◌≡◌, ◌↔◌, true, Contains, subst}
use Rattle.awk_ere.specs.Table.{steps_of}
use Rattle.awk_ere.proofs.Gathering.{flags_begin, flags_push}
use Rattle.awk_ere.proofs.states.accepting.Goals as goal

pub loop-at-init : goal.loop-at-init
loop-at-init c = rw c.in_ok-flags.ensures.items (flags_begin _)

pub loop-at-preserved : goal.loop-at-preserved
loop-at-preserved c =
    flags_push (λ q. Contains (steps_of c.args.lists.now q) 0) _ _ _ c.has_done.result c.in_ok-push.ensures.items
    (subst (λ x. (c.has_done.result ≡ true) ↔ Contains x 0) c.list.ensures c.has_done.ensures) c.loop-at.invariant
