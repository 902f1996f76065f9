use Rattle.std.proofs.Common.{◌∙◌, map, sym, ap}
use Rattle.box_policy.specs.Counts.{rule_cleared}
use Rattle.box_policy.proofs.CountsLemmas.{kept, noted-same}
use Rattle.box_policy.proofs.policy.Policy.note.Goals as goal

pub invariant_of-self : goal.invariant_of-self
invariant_of-self c =
    kept c.self.inside.rules.items c.note_in.new.rules.items c.self.inside.index
    (sym (ap (map rule_cleared) c.note_in.ensures ∙ noted-same c.args.rule c.self.inside.rules.items)) c.self.invariant
