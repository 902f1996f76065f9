use Rattle.std.proofs.Common.{◌++◌, ◌∷◌, [], ℕ, List, Option, sym, subst}
use Rattle.box_policy.specs.declared.policy.Rule.{Rule}
use Rattle.box_advice.specs.Heads.{HasHeads, IsHeadOf, pieces}
use Rattle.box_advice.specs.declared.heads.Head.{Head}
use Rattle.box_advice.proofs.HeadsLemmas.{has_more}
use Rattle.box_advice.proofs.wanting.Gains.add.Goals as goal

pub returns-clause-kept : goal.returns-clause-kept
returns-clause-kept c =
    let base : List ℕ = c.args.policy.now.base in
    let rule : Rule = c.args.rule in
    let rules : List Rule = c.args.self.now.rules.items in
    let heads : List (Option Head) = c.args.self.now.heads.items in
    let head : Option Head = c.in_ok-outline.outline.head in
    let of : IsHeadOf rule.kind (pieces base rule.kind rule.pattern) head =
    subst (λ (b : List ℕ). IsHeadOf rule.kind (pieces b rule.kind rule.pattern) head) c.base.ensures
    (subst (λ (t : List ℕ). IsHeadOf rule.kind (pieces c.base.result.now rule.kind t) head) c.bytes.ensures
    c.in_ok-outline.ensures.head) in
    subst (λ (hs : List (Option Head)). HasHeads base c.push-2.new.self.items hs) (sym c.in_ok-push.ensures.items)
    (subst (λ (rs : List Rule). HasHeads base rs (heads ++ head ∷ [])) (sym c.in_ok-push-2.ensures.items)
    (has_more base rules heads rule head c.requires.kept c.requires.short of))
