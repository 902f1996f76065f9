use Rattle.std.proofs.Common.{◌++◌, option_map, append_assoc}
use Rattle.awk_program.specs.View.{view}
use Rattle.box_listing.specs.Sites as spec
use Rattle.box_listing.proofs.Finding.{then, after}
use Rattle.box_listing.proofs.statements.header.Goals as goal

pub returns : goal.returns
returns c = then _ _ _ _ _ _ (λ n. spec.optional (option_map (view n) c.args.first.now)
    ++ (spec.optional (option_map (view n) c.args.test.now) ++ spec.optional (option_map (view n) c.args.step.now)))
    (after _ _ _ _ _ c.in_ok-optional.ensures c.in_ok-optional-2.ensures) c.optional-3.ensures
    (λ n. append_assoc (spec.optional (option_map (view n) c.args.first.now))
    (spec.optional (option_map (view n) c.args.test.now)) (spec.optional (option_map (view n) c.args.step.now)))
