use Rattle.std.proofs.Common.{arith}
use Rattle.awk_ere.proofs.Searching.{cap_small, marks_turn}
use Rattle.awk_ere.proofs.search.Runs.turn.Goals as goal

pub advance-requires-clause-cap : goal.advance-requires-clause-cap
advance-requires-clause-cap c = omega (arith, c.cap_at-cap.ensures, cap_small _ _ _ _ _ _ _ c.in_ok-found.ensures.best)

pub returns-clause-marks : goal.returns-clause-marks
returns-clause-marks c =
    marks_turn _ _ _ _ _ _ _ _ _ c.requires.place.1 c.in_ok-found.ensures.best c.in_ok-found.ensures.marks
    (rw c.cap_at-cap.ensures at c.in_ok-advance.ensures.advances)
