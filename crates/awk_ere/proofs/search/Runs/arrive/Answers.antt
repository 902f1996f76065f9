use Rattle.std.proofs.Common.{arith}
use Rattle.awk_ere.proofs.Searching.{marks_start, marks_narrow, best_none, best_first, best_kept, best_moves}
use Rattle.awk_ere.proofs.search.Runs.arrive.Goals as goal

pub reach-requires-clause-closed : goal.reach-requires-clause-closed
reach-requires-clause-closed c = rw (c.ends_at.ensures.first, c.ends_at.ensures.last) c.requires.marks.closed

pub returns-then-start-lt-NONE-clause-marks : goal.returns-then-start-lt-NONE-clause-marks
returns-then-start-lt-NONE-clause-marks c =
    let h = rw c.in-None.is at c.requires.marks in
    let reaches = rw (c.ends_at.ensures.first, c.ends_at.ensures.last) at c.in_ok-reach-in-None.ensures.reaches in
    let m = marks_start _ _ _ _ _ _ _ _ c.requires.place.0 h reaches in
    marks_narrow _ _ _ _ _ _ _ _ _
    (omega (
      arith,
      c.least-start.ensures,
      m.sound 0 (omega (arith, c.least-start.ensures, c.if-start-lt-NONE.true)),
    )) m

pub returns-then-start-lt-NONE-clause-best : goal.returns-then-start-lt-NONE-clause-best
returns-then-start-lt-NONE-clause-best c =
    let h = rw c.in-None.is at c.requires.marks in
    let old = rw c.in-None.is at c.requires.best in
    let reaches = rw (c.ends_at.ensures.first, c.ends_at.ensures.last) at c.in_ok-reach-in-None.ensures.reaches in
    let m = marks_start _ _ _ _ _ _ _ _ c.requires.place.0 h reaches in
    rw c.least-start.ensures (best_first _ _ _ _ _ _ _ c.requires.small
    (omega (arith, c.least-start.ensures, c.if-start-lt-NONE.true)) m old)

pub returns-else-start-lt-NONE-clause-marks : goal.returns-else-start-lt-NONE-clause-marks
returns-else-start-lt-NONE-clause-marks c =
    let h = rw c.in-None.is at c.requires.marks in
    let reaches = rw (c.ends_at.ensures.first, c.ends_at.ensures.last) at c.in_ok-reach-in-None.ensures.reaches in
    marks_start _ _ _ _ _ _ _ _ c.requires.place.0 h reaches

pub returns-else-start-lt-NONE-clause-best : goal.returns-else-start-lt-NONE-clause-best
returns-else-start-lt-NONE-clause-best c =
    let h = rw c.in-None.is at c.requires.marks in
    let old = rw c.in-None.is at c.requires.best in
    let reaches = rw (c.ends_at.ensures.first, c.ends_at.ensures.last) at c.in_ok-reach-in-None.ensures.reaches in
    best_none _ _ _ _ _ _ _ c.requires.small (omega (arith, c.least-start.ensures, c.if-start-lt-NONE.false))
    (marks_start _ _ _ _ _ _ _ _ c.requires.place.0 h reaches) old

pub returns-then-had-start-clause-best : goal.returns-then-had-start-clause-best
returns-then-had-start-clause-best c =
    let h = rw c.in-Some.is at c.requires.marks in
    let old = rw c.in-Some.is at c.requires.best in
    best_kept _ _ _ _ _ _ _ c.requires.small _ _ h old (omega (arith, c.least-start-in-Some.ensures))

pub returns-else-had-start-clause-best : goal.returns-else-had-start-clause-best
returns-else-had-start-clause-best c =
    let h = rw c.in-Some.is at c.requires.marks in
    let old = rw c.in-Some.is at c.requires.best in
    rw c.least-start-in-Some.ensures (best_moves _ _ _ _ _ _ _ c.requires.small _ _ h old
    (omega (arith, c.least-start-in-Some.ensures)))

pub returns-else-had-start-clause-marks : goal.returns-else-had-start-clause-marks
returns-else-had-start-clause-marks c =
    let h = rw c.in-Some.is at c.requires.marks in
    marks_narrow _ _ _ _ _ _ _ _ _ (omega (arith, c.least-start-in-Some.ensures)) h
