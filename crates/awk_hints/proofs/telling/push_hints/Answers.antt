use Rattle.std.proofs.Common.{refl, arith}
use Rattle.awk_hints.specs.Hints.{hint_of}
use Rattle.awk_hints.proofs.Lists.{all_made}
use Rattle.awk_hints.proofs.telling.push_hints.Goals as goal

pub loop-kind-init : goal.loop-kind-init
loop-kind-init c = refl

pub returns : goal.returns
returns c = all_made (hint_of c.args.token.now) _ _ c.args.kinds.now c.loop-kind.kind-index
    (omega arith) c.loop-kind.invariant
