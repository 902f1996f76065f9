use Rattle.std.proofs.Common.{refl}
use Rattle.awk_program.specs.View.{view_rule}
use Rattle.box_listing.specs.Sites as spec
use Rattle.box_listing.proofs.Finding.{then}
use Rattle.box_listing.proofs.program.rule.Goals as goal

pub returns : goal.returns
returns c = then _ _ _ _ _ _ (λ n. spec.rule (view_rule n c.args.x.now)) c.in_ok-when.ensures c.actions.ensures
    (λ n. rw c.as_slice.ensures refl)
