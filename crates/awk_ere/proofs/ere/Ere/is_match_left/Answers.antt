use Rattle.awk_ere.proofs.Meeting.{match_whole}
use Rattle.awk_ere.proofs.ere.Ere.is_match_left.Goals as goal

pub returns-in-Some : goal.returns-in-Some
returns-in-Some c = match_whole _ _ _ (rw c.in-Some.is at c.in_ok-has_match.ensures)
