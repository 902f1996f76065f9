use Rattle.std.proofs.Common.{[], arith, rules, length-set}
use Rattle.box_policy.specs.NamesLeft.{names_left}
use Rattle.box_policy.specs.Tokens.{stream}
use Rattle.box_policy.proofs.WalksLemmas.{leads_last}
use Rattle.box_policy.proofs.matching.names_lead.Goals as goal

pub returns : goal.returns
returns c = λ symbols table count.
    leads_last symbols c.args.last c.args.reached.now c.start.new.reached c.walk_names.new.reached
    (stream (names_left c.args.subject)) c.is_reached.result c.is_reached.ensures count c.start.ensures
    c.requires.blank
    (omega (arith, c.requires.room)) (c.walk_names.ensures.places symbols table (search (rules, length-set)))
