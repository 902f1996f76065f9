use Rattle.std.proofs.Common.{◌≡◌, ◌≤◌, ◌-◌}
use Rattle.awk_ere.specs.Making.{AreMade}
use Rattle.awk_ere.specs.Table.{Later}
use Rattle.awk_ere.proofs.Making.{IsRow}
use Rattle.awk_ere.proofs.states.Maker.row.Given as goal

abbrev pub invariant-loop-byte : goal.invariant-loop-byte
invariant-loop-byte l = record {
  made : AreMade l.self.program.now l.states;
  later : Later l.fn.states.lists l.states.lists;
  eats : l.states.eats.items ≡ l.initial.states.eats.items;
  inside : l.byte ≤ 256;
  row : IsRow l.self.sets.now l.self.program.now l.initial.states.eats.items l.states.lists l.byte l.row;
}

abbrev pub decreases-loop-byte : goal.decreases-loop-byte
decreases-loop-byte l = 256 - l.byte
