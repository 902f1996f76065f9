use Rattle.std.proofs.Common.{arith}
use Rattle.awk_ere.proofs.Gathering.{leading_begins, leading_more, leading_ends}
use Rattle.awk_ere.proofs.closure.lead.Goals as goal

pub loop-at-init : goal.loop-at-init
loop-at-init c = record { len = c.requires.room.0; leading = leading_begins _ _ _ _ _ c.requires.room.1 }

pub loop-at-preserved : goal.loop-at-preserved
loop-at-preserved c = record {
  len = c.in_ok-lead_from.ensures.len;
  leading = leading_more _ _ _ _ _ _ _ c.loop-at-test.true c.in_ok-lead_from.ensures.more c.loop-at.invariant.leading;
}

pub returns-clause-len : goal.returns-clause-len
returns-clause-len c = c.loop-at.invariant.len

pub returns-clause-led : goal.returns-clause-led
returns-clause-led c = leading_ends _ _ _ _ _ _ (omega arith) c.loop-at.invariant.leading
