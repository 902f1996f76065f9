use Rattle.awk_ere.specs.Closure.{IsRoom}
use Rattle.awk_ere.specs.Table.{steps_of, AreFlags, EndsAtLast}
use Rattle.awk_ere.proofs.states.ending.Given as goal

abbrev pub invariant-loop-at : goal.invariant-loop-at
invariant-loop-at l = record {
  flags : AreFlags (λ q. EndsAtLast l.program (steps_of l.lists q)) l.at l.flags.items;
  room : IsRoom l.program l.room;
}
