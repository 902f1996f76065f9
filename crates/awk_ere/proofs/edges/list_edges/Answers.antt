use Rattle.std.proofs.Common.{refl, arith}
use Rattle.awk_ere.proofs.Making.{so_far_begins, so_far_more, so_far_ends}
use Rattle.awk_ere.proofs.edges.list_edges.Goals as goal

pub loop-at-init : goal.loop-at-init
loop-at-init c = so_far_begins _ _ _ _ refl

pub loop-at-preserved : goal.loop-at-preserved
loop-at-preserved c = so_far_more _ _ _ _ _ _ c.add_edges_at.ensures.kept c.add_edges_at.ensures.edges
    c.loop-at.invariant

pub returns : goal.returns
returns c = so_far_ends _ _ _ _ _ (omega arith) c.loop-at.invariant
