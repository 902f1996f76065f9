use Rattle.box_policy.specs.NamesLeft.{names_left}
use Rattle.box_policy.proofs.CoversLemmas.{none_leads}
use Rattle.box_policy.proofs.deciding.first_ahead.Goals as goal

pub returns-in-None : goal.returns-in-None
returns-in-None c = λ rules indexed. none_leads c.args.kind c.args.group (names_left c.args.names) rules
    c.in-None.ensures.steps.0
