use Rattle.std.proofs.Common.{◌<◌, length}
use Rattle.awk_ere.specs.Lazy.{AreMet}
use Rattle.awk_ere.specs.Table.{steps_of, IsFront, IsLongest}
use Rattle.awk_ere.proofs.lazy.Machine.longest.Given as goal

abbrev pub invariant-loop-place : goal.invariant-loop-place
invariant-loop-place l = record {
  met : AreMet l.self.sets.now l.self.program.now l.self.step l.met;
  state : l.state < length l.met.lists;
  front : IsFront l.self.sets.now l.self.program.now l.text l.self.step l.from l.place (steps_of l.met.lists l.state);
  best : IsLongest l.self.sets.now l.self.program.now l.text l.self.step l.from l.place l.best;
}
