use Rattle.std.proofs.Common.{◌≤◌, ◌-◌, length}
use Rattle.awk_ere.specs.Making.{AreMade}
use Rattle.awk_ere.specs.Table.{Later, AreRows}
use Rattle.awk_ere.specs.declared.states.TheConstants.{UNKNOWN}
use Rattle.awk_ere.proofs.states.Maker.add_rows.Given as goal

abbrev pub invariant-loop-cells : goal.invariant-loop-cells
invariant-loop-cells l = record {
  made : AreMade l.self.program.now l.states;
  later : Later l.fn.states.lists l.states.lists;
  inside : length l.cells.items ≤ length l.states.lists;
  few : length l.cells.items ≤ UNKNOWN;
  rows : AreRows l.self.sets.now l.self.program.now l.states.lists l.cells.items;
}

abbrev pub decreases-loop-cells : goal.decreases-loop-cells
decreases-loop-cells l = UNKNOWN - length l.cells.items
