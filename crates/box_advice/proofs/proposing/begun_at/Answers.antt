use Rattle.std.proofs.Common.{◌≡◌, ◌∙◌, true, length, sym, arith, rules}
use Rattle.box_advice.proofs.ProposingLemmas.{bare}
use Rattle.box_advice.proofs.proposing.begun_at.Goals as goal

pub returns-clause-ok : goal.returns-clause-ok
returns-clause-ok c =
    let told : c.has_base.result ≡ true = search rules in
    let none : length c.in_ok-policy.policy.rules ≡ 0 = omega (arith, c.count.ensures.count) in
    bare c.in_ok-policy.policy c.args.base.now (sym c.has_base.ensures ∙ told) none
