use Rattle.std.proofs.Common.{sym, arith}
use Rattle.awk_resolve.proofs.Reaching.{begins, goes, ends, smaller}
use Rattle.awk_resolve.proofs.uses.reached.Goals as goal

pub loop-n-init : goal.loop-n-init
loop-n-init c = rw (c.in_ok-mark_all.ensures, c.in_ok-reach.ensures) (begins c.args.seeds.now c.args.links.now)

pub loop-n-preserved : goal.loop-n-preserved
loop-n-preserved c = rw c.in_ok-follow.ensures (goes _ _ _ _ _ c.loop-n.invariant (sym c.in-Some.ensures.value))

pub loop-n-smaller : goal.loop-n-smaller
loop-n-smaller c = let less = smaller _ _ _ _ _ c.loop-n.invariant (sym c.in-Some.ensures.value) in omega (arith, less)

pub returns : goal.returns
returns c = ends _ _ _ _ c.loop-n.invariant (sym c.in_default.ensures.value)
