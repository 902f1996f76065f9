use Rattle.std.proofs.Common.{refl}
use Rattle.awk_run.proofs.Preparing.{no_memory, prepares_last, ready, unprepared}
use Rattle.awk_run.proofs.start.set_separator.Goals as goal

pub returns-in_default : goal.returns-in_default
returns-in_default c = λ m t k. rw c.in_default.is (ready (unprepared _ _))

pub returns-in_default-unescape : goal.returns-in_default-unescape
returns-in_default-unescape c = λ m t k. no_memory refl

pub returns : goal.returns
returns c = λ m t k. rw c.in-Some.is
    (prepares_last (unprepared _ _) (rw (c.new.ensures, c.in-Ok.ensures.ok, c.bytes.ensures) at
    (c.set_own.ensures m t)))
