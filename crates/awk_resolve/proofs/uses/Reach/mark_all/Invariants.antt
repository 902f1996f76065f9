use Rattle.std.proofs.Common.{◌≡◌, drop}
use Rattle.awk_resolve.specs.Marking.{mark_all}
use Rattle.awk_resolve.proofs.uses.Reach.mark_all.Given as goal

abbrev pub invariant-loop-n : goal.invariant-loop-n
invariant-loop-n l = mark_all l.numbers l.initial.self ≡ mark_all (drop l.n-index l.numbers) l.self
