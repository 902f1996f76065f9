use Rattle.std.proofs.Common.{arith}
use Rattle.awk_lib.proofs.Digits.{outside_beyond}
use Rattle.awk_lib.proofs.dense.Dense.slot.Goals as goal

pub returns-else-k-len-clause-none : goal.returns-else-k-len-clause-none
returns-else-k-len-clause-none g c =
    λ e. outside_beyond c.args.key.now c.in_ok-k.k _ c.in_ok-k.ensures.some.0 c.in_ok-k.ensures.some.1
    (omega (arith, c.if-k-len.false, c.len.ensures, c.args.self.now.places.ok.0))
