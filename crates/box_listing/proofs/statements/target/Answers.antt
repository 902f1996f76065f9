use Rattle.std.proofs.Common.{refl, option_map, append-nil}
use Rattle.awk_program.specs.View.{view_redirection}
use Rattle.box_listing.specs.Sites as spec
use Rattle.box_listing.proofs.Finding.{same}
use Rattle.box_listing.proofs.statements.target.Goals as goal

pub returns-in-None : goal.returns-in-None
returns-in-None c = λ n. rw (c.in-None.is, append-nil) refl

pub returns-in-Some : goal.returns-in-Some
returns-in-Some c = same _ _ _ _ (λ n. spec.redirection (option_map (view_redirection n) c.args.r.now))
    c.redirection.ensures (λ n. rw (c.in-Some.is) refl)
