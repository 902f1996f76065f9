use Rattle.std.proofs.Common.{take}
use Rattle.awk_resolve.specs.Clash.{IsFirst, OneOf, MentionAt}
use Rattle.awk_resolve.proofs.kinds.at_mentions.Given as goal

abbrev pub invariant-loop-mention : goal.invariant-loop-mention
invariant-loop-mention l = IsFirst (OneOf (MentionAt l.sought.kinds.now l.role) (take l.mention-index l.mentions))
    l.first
