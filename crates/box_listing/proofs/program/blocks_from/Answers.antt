use Rattle.box_listing.proofs.program.blocks_from.Goals as goal

pub returns-then-at-xs : goal.returns-then-at-xs
returns-then-at-xs c = rw c.split_at.ensures.back at c.blocks-then-at-xs.ensures
