use Rattle.awk_resolve.specs.Clash.{MentionAt}
use Rattle.awk_resolve.proofs.Clashing.{more_first, all_first}
use Rattle.awk_resolve.proofs.kinds.at_mentions.Goals as goal

pub loop-mention-preserved : goal.loop-mention-preserved
loop-mention-preserved c =
    more_first (MentionAt c.args.sought.now.kinds.now c.args.role.now) c.args.mentions.now c.loop-mention.mention-index
    c.mention-item.result c.loop-mention-test.true c.mention-item.is
    c.loop-mention.first c.at_mention.result c.earlier-first.result c.loop-mention.invariant c.at_mention.ensures
    c.earlier-first.ensures

pub returns : goal.returns
returns c = all_first (MentionAt c.args.sought.now.kinds.now c.args.role.now) c.args.mentions.now
    c.loop-mention.mention-index c.loop-mention.first c.loop-mention-test.false c.loop-mention.invariant
