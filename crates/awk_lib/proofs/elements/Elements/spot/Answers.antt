use Rattle.std.proofs.Common.{arith}
use Rattle.awk_lib.proofs.Digits.{outside_beyond}
use Rattle.awk_lib.proofs.elements.Elements.spot.Goals as goal

pub returns-then-len-self-clause-none : goal.returns-then-len-self-clause-none
returns-then-len-self-clause-none g c = λ _. outside_beyond c.args.key.now c.in_ok-k.k _ c.in_ok-k.ensures.some.0
    c.in_ok-k.ensures.some.1 (omega arith)

pub returns-then-not-is_empty-clause-none : goal.returns-then-not-is_empty-clause-none
returns-then-not-is_empty-clause-none g c = λ _. outside_beyond c.args.key.now c.in_ok-k.k _ c.in_ok-k.ensures.some.0
    c.in_ok-k.ensures.some.1 (omega arith)

pub returns-then-k-len-gt-MOST_APART-clause-none : goal.returns-then-k-len-gt-MOST_APART-clause-none
returns-then-k-len-gt-MOST_APART-clause-none g c = λ _. outside_beyond c.args.key.now c.in_ok-k.k _
    c.in_ok-k.ensures.some.0 c.in_ok-k.ensures.some.1 (omega arith)
