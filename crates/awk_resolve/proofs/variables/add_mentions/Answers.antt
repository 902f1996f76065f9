use Rattle.std.proofs.Common.{arith}
use Rattle.awk_resolve.proofs.Growing.{mentions_on}
use Rattle.awk_resolve.proofs.variables.add_mentions.Goals as goal

pub loop-mention-preserved : goal.loop-mention-preserved
loop-mention-preserved c = mentions_on c.args.parameters.now _ _ _ c.mention-item.result c.args.mentions.now
    c.loop-mention.mention-index (omega arith) c.mention-item.is c.in_ok-add_mention.ensures c.loop-mention.invariant
