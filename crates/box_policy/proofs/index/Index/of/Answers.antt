use Rattle.std.proofs.Common.{◌≡◌, ◌∙◌, ◌+◌, ◌-◌, ◌<◌, ◌≤◌, ◌∷◌, length, drop, sym, ap, arith}
use Rattle.box_policy.specs.Shelves.{shelf, shelf_of, first_of, stands}
use Rattle.box_policy.proofs.IndexLemmas.{split_at, firsts_step, nexts_step}
use Rattle.box_policy.proofs.index.Index.of.Goals as goal

pub loop-at-preserved : goal.loop-at-preserved
loop-at-preserved c =
    let at = c.loop-at.at in
    let rule = c.index-rules-at.result in
    let key = c.in_ok-kept.kept in
    let count : at ≡ at - 1 + 1 = omega (arith, c.loop-at-test.true) in
    let within : at ≤ length c.args.rules.now = c.loop-at.invariant.within in
    let split : drop (at - 1) c.args.rules.now ≡ rule ∷ drop at c.args.rules.now =
    split_at c.args.rules.now (at - 1) at rule count (omega (arith, within, c.loop-at-test.true)) c.index-rules-at.is in
    let is : shelf key.kind key.group key.first.items ≡ shelf_of rule = c.in_ok-kept.ensures ∙ c.shelf_of.ensures in
    record {
      within = omega (arith, within);
      firsts = firsts_step (λ k. shelf k.kind k.group k.first.items) c.args.rules.now (at - 1) at rule key
          c.loop-at.firsts.entries c.insert.new.self.entries count split is
          c.in_ok-next.ensures.entries c.loop-at.invariant.firsts;
      nexts = nexts_step c.args.rules.now (at - 1) at rule c.in_ok-next.next c.loop-at.nexts.items c.push.new.self.items
          count split
          (c.in_ok-next.ensures.old ∙ (c.loop-at.invariant.firsts (shelf key.kind key.group key.first.items)
          ∙ ap (λ s. first_of (stands s) (at + 1) (drop at c.args.rules.now)) is))
          c.loop-at.invariant.nexts c.in_ok-push.ensures.items;
    }
