use Rattle.std.proofs.Common.{ℕ, arith, length-drop}
use Rattle.std.proofs.Math.Seq.{take-add}
use Rattle.box_monitor.specs.Laws.{Appends-then}
use Rattle.box_monitor.proofs.Rests.{rest_of}
use Rattle.box_monitor.proofs.write.write_bytes.Goals as goal

pub loop-at-preserved : goal.loop-at-preserved
loop-at-preserved g c = record {
  within = omega (arith, length-drop {A = ℕ}, c.in-Ok.ensures.bound);
  written = rw take-add (Appends-then _ _ _ _ _ c.loop-at.invariant.written
      (rw (rest_of c.loop-at.at c.args.line.now) at c.in-Ok.ensures.bytes));
}
