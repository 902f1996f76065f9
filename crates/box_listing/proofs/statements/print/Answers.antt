use Rattle.std.proofs.Common.{◌++◌, refl, map, option_map}
use Rattle.awk_program.specs.View.{view, view_redirection}
use Rattle.box_listing.specs.Sites as spec
use Rattle.box_listing.proofs.Finding.{then}
use Rattle.box_listing.proofs.statements.print.Goals as goal

pub returns : goal.returns
returns c = then _ _ _ _ _ _ (λ n. spec.all (map (view n) c.args.xs.now) ++ spec.redirection
    (option_map (view_redirection n) c.args.r.now)) c.in_ok-values.ensures c.target.ensures (λ n. refl)
