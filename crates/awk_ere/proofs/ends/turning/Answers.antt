use Rattle.std.proofs.Common.{arith}
use Rattle.std.proofs.lemmas.Option.{slice_get-get_or}
use Rattle.awk_ere.proofs.Ending.{skips_inside, turning_more, turning_none}
use Rattle.awk_ere.proofs.ends.turning.Goals.{then-turns+in_ok-push, else-turns}
use Rattle.awk_ere.proofs.ends.turning.Goals as goal

pub loop-at-preserved : goal.loop-at-preserved
loop-at-preserved c = elim c.if-turns.branch [
  | then-turns+in_ok-push w ↦ rw w.steps-is (turning_more _ _ _ _ w.in_ok-push.ensures.items c.loop-at.invariant)
  | else-turns w ↦ rw w.steps-is
      (turning_none _ _ _ _ (slice_get-get_or c.args.program.now c.loop-at.at _ c.loop-at-test.true)
      (c.turns.ensures w.if-turns.false) c.loop-at.invariant)
]

pub returns : goal.returns
returns c = λ first last q r skip. c.loop-at.invariant first last q r (omega (
  arith,
  skips_inside _ _ _ _ _ skip,
  c.loop-at-test.false,
)) skip
