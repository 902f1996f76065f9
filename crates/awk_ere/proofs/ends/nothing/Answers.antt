use Rattle.awk_ere.proofs.ends.nothing.Goals as goal

pub returns : goal.returns
returns c = c.in_ok-row.ensures.items_if_clones_equal (λ y h. h)
