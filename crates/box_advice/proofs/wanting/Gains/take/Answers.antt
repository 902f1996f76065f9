use Rattle.box_advice.proofs.GrantsLemmas.{gains_short}
use Rattle.box_advice.proofs.wanting.Gains.take.Goals as goal

pub gain-requires-clause-short : goal.gain-requires-clause-short
gain-requires-clause-short c =
    gains_short c.args.policy.now c.args.self.now.rules.items c.args.wish.now c.in_ok-fate.fate c.in_ok-fate.ensures
    c.in-Gains.is
