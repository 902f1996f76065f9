use Rattle.std.proofs.Common.{arith}
use Rattle.awk_ere.proofs.Gathering.{later_self, later_then}
use Rattle.awk_ere.proofs.states.Maker.add_rows.Goals as goal

pub loop-cells-init : goal.loop-cells-init
loop-cells-init c = record {
  made = c.requires.made;
  later = later_self _;
  inside = c.requires.inside;
  few = c.requires.few;
  rows = c.requires.rows;
}

pub loop-cells-preserved : goal.loop-cells-preserved
loop-cells-preserved c = record {
  made = c.in_ok-add_row.ensures.made;
  later = later_then _ _ _ c.loop-cells.invariant.later c.in_ok-add_row.ensures.later;
  inside = c.in_ok-add_row.ensures.inside;
  few = omega (arith, c.in_ok-add_row.ensures.len, c.if-len.true, c.len-in-loop-cells-2.ensures, c.loop-cells.cells.ok);
  rows = c.in_ok-add_row.ensures.rows;
}
