use Rattle.std.proofs.Common.{◌≡◌, drop}
use Rattle.box_advice.specs.Wishes.{speak}
use Rattle.box_advice.proofs.wanting.speak.Given as goal

-- none of those before speaks
abbrev pub invariant-loop-rule : goal.invariant-loop-rule
invariant-loop-rule l = record {
  at : l.at ≡ l.rule-index;
  rest : speak l.policy.base (drop l.rule-index l.rules) l.asked.kind l.asked.text.now l.asked.given
      ≡ speak l.policy.base l.rules l.asked.kind l.asked.text.now l.asked.given;
}
