use Rattle.std.proofs.Common.{take}
use Rattle.awk_hints.specs.Hints.{Tells}
use Rattle.awk_hints.proofs.telling.push_all.Given as goal

-- the tokens before this one are told of
abbrev pub invariant-loop-at : goal.invariant-loop-at
invariant-loop-at l = Tells l.fn.numbers l.tokens (take l.at l.tokens) l.out.items
