use Rattle.std.proofs.Common.{List, subst}
use Rattle.std.specs.Prelude.{IfOk, option_map}
use Rattle.box_policy.specs.declared.policy.Rule.{Rule}
use Rattle.box_advice.specs.Proposals.{IsText, with_gained}
use Rattle.box_advice.specs.Wishes.{IsGained}
use Rattle.box_advice.proofs.ProposingLemmas.{not_printed}
use Rattle.box_advice.proofs.proposing.proposed.Goals as goal

pub returns-in-Some-clause-ok : goal.returns-in-Some-clause-ok
returns-in-Some-clause-ok c =
    let got : IsGained c.args.beginning.now.policy c.args.wishes.now c.in-Some.gains.rules.items =
    rw c.in-Some.is at c.in_ok-gains.ensures in
    subst (λ (rules : List Rule). IfOk c.printed.result (λ text. IsText (option_map (λ s. s.now) c.args.base)
    (with_gained c.args.beginning.now.policy rules) text.items)) got.is c.printed.ensures.ok

pub returns-in-Some-clause-refused : goal.returns-in-Some-clause-refused
returns-in-Some-clause-refused c =
    let got : IsGained c.args.beginning.now.policy c.args.wishes.now c.in-Some.gains.rules.items =
    rw c.in-Some.is at c.in_ok-gains.ensures in
    not_printed (option_map (λ s. s.now) c.args.base) c.args.beginning.now.policy c.args.wishes.now
    c.in-Some.gains.rules.items got c.printed.result c.printed.ensures.refused
