use Rattle.std.proofs.Common.{◌∙◌, map, sym, ap}
use Rattle.box_policy.specs.Counts.{rule_cleared}
use Rattle.box_policy.proofs.CountsLemmas.{cleared-same, kept}
use Rattle.box_policy.proofs.policy.Policy.clear.Goals as goal

pub invariant_of-self : goal.invariant_of-self
invariant_of-self c =
    kept c.self.inside.rules.items c.clear_in.new.rules.items c.self.inside.index
    (sym (ap (map rule_cleared) c.clear_in.ensures ∙ cleared-same c.self.inside.rules.items)) c.self.invariant
