use Rattle.std.proofs.Common.{arith}
use Rattle.box_listing.proofs.Orders.{next_sort, all_sorts}
use Rattle.box_listing.proofs.scripts.order_of.Goals as goal

pub loop-item-preserved : goal.loop-item-preserved
loop-item-preserved c = next_sort _ _ c.args.items.now c.loop-item.item-index c.item-item.result c.sort_of.result
    (omega arith) c.item-item.is c.sort_of.ensures c.in_ok-push.ensures.items c.loop-item.invariant

pub returns : goal.returns
returns c = all_sorts _ c.args.items.now c.loop-item.item-index (omega arith) c.loop-item.invariant
