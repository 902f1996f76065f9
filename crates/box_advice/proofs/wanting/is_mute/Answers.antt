use Rattle.std.proofs.Common.{◌∙◌, sym}
use Rattle.std.proofs.lemmas.Bool.{not-true}
use Rattle.box_advice.proofs.HeadsLemmas.{mute}
use Rattle.box_advice.proofs.wanting.is_mute.Goals as goal

pub returns : goal.returns
returns c =
    λ h. mute c.args.policy.now.base c.args.rule.now c.args.asked.kind c.args.asked.text.now c.args.asked.given
    c.args.head.now c.args.trail.now
    c.requires.head c.requires.trail (sym c.may_fit.ensures ∙ not-true c.may_fit.result h)
