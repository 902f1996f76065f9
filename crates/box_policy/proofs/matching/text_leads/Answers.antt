use Rattle.std.proofs.Common.{[], arith, rules, length-set}
use Rattle.box_policy.proofs.WalksLemmas.{leads_text}
use Rattle.box_policy.proofs.matching.text_leads.Goals as goal

pub returns : goal.returns
returns c = λ symbols table count.
    leads_text symbols c.args.last c.args.reached.now c.start.new.reached c.walk_text.new.reached c.args.text.now
    c.is_reached.result c.is_reached.ensures count c.start.ensures c.requires.blank
    (omega (arith, c.requires.room)) (c.walk_text.ensures.places symbols [] table (search (rules, length-set)))
