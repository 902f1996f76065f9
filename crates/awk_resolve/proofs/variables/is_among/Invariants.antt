use Rattle.std.proofs.Common.{◌≡◌, length, map}
use Rattle.awk_tokens.specs.Words.{is_among}
use Rattle.awk_resolve.proofs.variables.is_among.Given as goal

abbrev pub invariant-loop-list : goal.invariant-loop-list
invariant-loop-list l = is_among (map (λ w. w.now) l.list) l.word ≡ is_among (map (λ w. w.now) l.initial.list) l.word

abbrev pub decreases-loop-list : goal.decreases-loop-list
decreases-loop-list l = length l.list
