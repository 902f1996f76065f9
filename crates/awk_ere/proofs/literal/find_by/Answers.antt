use Rattle.awk_ere.proofs.Literals.{pair_before, pair_inside, found_none, found_further}
use Rattle.awk_ere.proofs.literal.find_by.Goals as goal

pub returns-in-None : goal.returns-in-None
returns-in-None c =
    let first = c.in_ok-at.ensures in
    found_none _ _ c.in_ok-at.at (pair_inside _ _ _ c.requires _ first) (pair_before _ _ _ c.requires _ first)
    (rw c.split_at.ensures.back at c.in-None.ensures)

pub returns-in-Some : goal.returns-in-Some
returns-in-Some c =
    let first = c.in_ok-at.ensures in
    found_further _ _ c.in_ok-at.at (pair_inside _ _ _ c.requires _ first) (pair_before _ _ _ c.requires _ first)
    c.in-Some.further (rw c.split_at.ensures.back at c.in-Some.ensures)
