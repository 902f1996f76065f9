use Rattle.std.proofs.Common.{◌∙◌, sym}
use Rattle.std.proofs.lemmas.Bool.{not-true}
use Rattle.box_advice.proofs.HeadsLemmas.{apart}
use Rattle.box_advice.proofs.unreached.is_apart.Goals as goal

pub returns : goal.returns
returns c =
    λ h. apart c.args.policy.now.base c.args.earlier.now c.args.later.now c.args.head.now c.args.trail.now
    c.requires.head c.requires.trail
    (sym c.may_fit.ensures ∙ not-true c.may_fit.result h)
