use Rattle.std.proofs.Common.{◌-◌, ℕ, arith}
use Rattle.std.proofs.Math.ListN.{length-replicate}
use Rattle.std.proofs.lemmas.List.{get_or-replicate}
use Rattle.awk_ere.proofs.Making.{runs_begin, runs_more, runs_on, runs_end}
use Rattle.awk_ere.proofs.edges.alike.Goals.{then-edges-byte, else-edges-byte}
use Rattle.awk_ere.proofs.edges.alike.Goals as goal

pub loop-passed-init : goal.loop-passed-init
loop-passed-init c = runs_begin _ _ (length-replicate {A = ℕ} 256 255) (λ b small. get_or-replicate 256 b 255 0 small)

pub loop-passed-preserved : goal.loop-passed-preserved
loop-passed-preserved c =
    let h = c.loop-passed.invariant in
    let p = c.loop-passed.passed in
    let to = c.loop-passed-test.true in
    elim c.if-edges-byte.branch [
      | then-edges-byte w ↦ rw w.last-is (runs_more _ _ _ (255 - p) (255 - p) (omega (arith, to)) (omega arith)
          (omega arith) (λ b ge lt. absurd (omega (arith, ge, lt))) h)
      | else-edges-byte w ↦ rw w.last-is (runs_on _ _ _ (255 - p) (omega (arith, to)) c.loop-passed.auto.passed
          w.if-edges-byte.false h)
    ]

pub returns : goal.returns
returns c = runs_end _ _ _ (omega arith) c.loop-passed.invariant
