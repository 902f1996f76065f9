use Rattle.std.proofs.Common.{refl}
use Rattle.awk_program.specs.View.{view_redirection}
use Rattle.box_listing.specs.Sites as spec
use Rattle.box_listing.proofs.Finding.{then}
use Rattle.box_listing.proofs.statements.redirection.Goals as goal

pub returns : goal.returns
returns c = then _ _ _ _ _ _ (λ n. spec.redirected (view_redirection n c.args.r.now)) (λ n. c.in_ok-site.ensures)
    c.value.ensures (λ n. rw (c.kind_of.ensures, c.constant.ensures n) refl)
