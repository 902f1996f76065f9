use Rattle.std.proofs.Common.{◌≡◌, ◌∙◌, ◌+◌, true, false, ap, arith, rules}
use Rattle.box_policy.specs.Telling.{told_from}
use Rattle.box_policy.proofs.TellingLemmas.{passed, told, told_so, all_told}
use Rattle.box_policy.proofs.policy.Policy.told.Goals as goal

pub overflow_add-number : goal.overflow_add-number
overflow_add-number c = omega (arith, c.loop-rule.invariant.count, c.rules-all.ensures.few, c.loop-rule-test.true)

pub loop-rule-preserved-then-not-is_of : goal.loop-rule-preserved-then-not-is_of
loop-rule-preserved-then-not-is_of c =
    let other : c.is_of.result ≡ false = search rules in
    record {
      count = omega (arith, c.loop-rule.invariant.count);
      rest = passed c.args.self.now.base c.args.kind c.args.subject.now c.args.given (c.loop-rule.number + 1)
          c.loop-rule.rule-index c.rules-all.result.now
          c.rule-item.result c.is_of.result c.loop-rule.told.items _ c.loop-rule-test.true c.rule-item.is
          c.is_of.ensures other c.loop-rule.invariant.rest;
    }

pub loop-rule-preserved : goal.loop-rule-preserved
loop-rule-preserved c =
    let one : c.is_of.result ≡ true = search rules in
    record {
      count = omega (arith, c.loop-rule.invariant.count);
      rest = told c.args.self.now.base c.args.kind c.args.subject.now c.args.given (c.loop-rule.number + 1)
          c.loop-rule.rule-index c.rules-all.result.now
          c.rule-item.result c.is_of.result c.loop-rule.told.items c.push.new.self.items _ c.loop-rule-test.true
          c.rule-item.is c.is_of.ensures one
          (told_so c.loop-rule.told.items c.push.new.self.items (c.loop-rule.number + 1) c.speaks-fits.result _
          c.in_ok-push.ensures.items c.speaks-fits.ensures)
          c.loop-rule.invariant.rest;
    }

pub returns : goal.returns
returns c =
    all_told c.args.self.now.base c.args.kind c.args.subject.now c.args.given (c.loop-rule.number + 1)
    c.loop-rule.rule-index c.rules-all.result.now
    c.loop-rule.told.items _ c.loop-rule-test.false c.loop-rule.invariant.rest
    ∙ ap (λ book. told_from 1 c.args.self.now.base book c.args.kind c.args.subject.now c.args.given)
    c.rules-all.ensures.rules
