use Rattle.std.proofs.Common.{◌≡◌, ◌∙◌, ◌++◌, ◌∷◌, [], ◌+◌, ◌<◌, ℕ, List, Option, length, take, get_or, sym, ap, subst}
use Rattle.std.proofs.Common.{arith}
use Rattle.std.proofs.lemmas.List.{length_push}
use Rattle.box_policy.specs.declared.policy.Rule.{Rule}
use Rattle.box_advice.specs.Heads.{AreHeads, IsHeadOf, pieces}
use Rattle.box_advice.specs.Unreached.{first_covering, unreached_by, unreached_in}
use Rattle.box_advice.specs.declared.heads.Head.{Head}
use Rattle.box_advice.proofs.UnreachedLemmas.{heads_more, unreached_more}
use Rattle.box_advice.proofs.unreached.found.Goals as goal

pub loop-rule-preserved : goal.loop-rule-preserved
loop-rule-preserved c =
    let base : List ℕ = c.args.policy.now.base in
    let rules : List Rule = c.args.policy.now.rules in
    let rule : Rule = c.rule-item.result in
    let heads : List (Option Head) = c.loop-rule.heads.items in
    let head : Option Head = c.in_ok-outline.outline.head in
    let rules_are : length c.rules-rule-items.result.now ≡ length rules = ap length c.rules-rule-items.ensures.rules in
    let below : length heads < length rules = omega (
      arith,
      c.loop-rule-test.true,
      rules_are,
      c.loop-rule.invariant.count,
    ) in
    let at : rule ≡ get_or rules (length heads) rule =
    c.rule-item.is
    ∙ (ap (λ (xs : List Rule). get_or xs c.loop-rule.rule-index rule) c.rules-rule-items.ensures.rules
    ∙ ap (λ k. get_or rules k rule) (sym c.loop-rule.invariant.count)) in
    let size : length c.push.new.self.items ≡ length heads + 1 = ap length c.in_ok-push.ensures.items
    ∙ length_push heads head in
    let number : c.len.result ≡ length heads + 1 = omega (arith, c.len.ensures, size) in
    let of : IsHeadOf rule.kind (pieces base rule.kind rule.pattern) head =
    subst (λ (b : List ℕ). IsHeadOf rule.kind (pieces b rule.kind rule.pattern) head) c.base.ensures
    (subst (λ (t : List ℕ). IsHeadOf rule.kind (pieces c.base.result.now rule.kind t) head) c.bytes.ensures
    c.in_ok-outline.ensures.head) in
    record {
      count = size ∙ ap (λ n. n + 1) c.loop-rule.invariant.count;
      told = unreached_more base rules (length heads) rule c.in_ok-by.by c.loop-rule.told.items
          c.push_unreached.new.told.items below at
          (c.in_ok-by.ensures ∙ ap (λ (hs : List (Option Head)). first_covering base (take (length hs) rules) rule)
          c.as_slice.ensures.value)
          (c.in_ok-push_unreached.ensures ∙ ap (λ n. c.loop-rule.told.items ++ unreached_by n c.in_ok-by.by) number)
          c.loop-rule.invariant.told
          ∙ ap (unreached_in base rules) (sym size);
      heads = subst (AreHeads base rules) (sym c.in_ok-push.ensures.items)
          (heads_more base rules heads rule head below at of c.loop-rule.invariant.heads);
    }
