use Rattle.awk_ere.proofs.Normal.{same_trans, same_back, empty_alt, alt_empty}
use Rattle.awk_ere.proofs.tree.alt_node.Goals as goal

pub returns-in_ok-node-in-Empty : goal.returns-in_ok-node-in-Empty
returns-in_ok-node-in-Empty c = λ sets. rw c.in-Empty.is (same_trans _ _ _ (c.in_ok-node-in-Empty.ensures sets)
    (empty_alt _))

pub returns-in_ok-node-in-Empty-right : goal.returns-in_ok-node-in-Empty-right
returns-in_ok-node-in-Empty-right c = λ sets. rw c.in-Empty-right.is
    (same_trans _ _ _ (c.in_ok-node-in-Empty-right.ensures sets) (same_back _ _ (alt_empty _)))
