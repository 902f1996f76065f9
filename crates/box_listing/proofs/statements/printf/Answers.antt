use Rattle.std.proofs.Common.{◌++◌, refl, map, option_map}
use Rattle.awk_program.specs.View.{view, view_redirection}
use Rattle.box_listing.specs.Sites as spec
use Rattle.box_listing.proofs.Finding.{then}
use Rattle.box_listing.proofs.statements.printf.Goals as goal

pub returns : goal.returns
returns c = then _ _ _ _ _ _ (λ n. spec.value (view n c.args.x.now) ++ (spec.all (map (view n) c.args.xs.now)
    ++ spec.redirection (option_map (view_redirection n) c.args.r.now))) c.in_ok-value.ensures c.print.ensures
    (λ n. refl)
