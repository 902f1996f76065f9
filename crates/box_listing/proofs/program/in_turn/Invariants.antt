use Rattle.std.proofs.Common.{◌≡◌, ◌++◌, drop}
use Rattle.awk_program.specs.View.{Names}
use Rattle.box_listing.specs.Walks.{left}
use Rattle.box_listing.proofs.program.in_turn.Given as goal

abbrev pub invariant-loop-sort : goal.invariant-loop-sort
invariant-loop-sort l = (t : Names)
    → l.initial.out.items ++ left l.order (record { begin = 0; rules = 0; end = 0; functions = 0 }) t l.program
    ≡ l.out.items ++ left (drop l.sort-index l.order) l.at t l.program
