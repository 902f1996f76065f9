use Rattle.std.proofs.Common.{◌≡◌, false, sym, rules}
use Rattle.box_policy.specs.Fits.{is_readable}
use Rattle.box_policy.specs.Targets.{sees}
use Rattle.box_policy.proofs.DecisionsLemmas.{decision_from-unreadable}
use Rattle.box_policy.proofs.policy.Policy.first.Goals as goal

pub returns-then-not-is_readable : goal.returns-then-not-is_readable
returns-then-not-is_readable c =
    let hidden : is_readable c.args.self.now.base c.args.kind c.args.subject.now ≡ false = search rules in
    sym (decision_from-unreadable (sees c.args.sight) 1 c.args.self.now.base c.args.self.now.rules c.args.kind
    c.args.subject.now c.args.given hidden)
