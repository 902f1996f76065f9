use Rattle.std.proofs.Common.{refl, append-nil}
use Rattle.awk_program.specs.View.{view_when}
use Rattle.box_listing.specs.Sites as spec
use Rattle.box_listing.proofs.Finding.{same, then}
use Rattle.box_listing.proofs.program.when.Goals as goal

pub returns-in-Always : goal.returns-in-Always
returns-in-Always c = λ n. rw (c.in-Always.is, append-nil) refl

pub returns-in-Holds : goal.returns-in-Holds
returns-in-Holds c = same _ _ _ _ (λ n. spec.when (view_when n c.args.x.now)) c.value.ensures
    (λ n. rw (c.in-Holds.is) refl)

pub returns-in_ok-value-in-Range : goal.returns-in_ok-value-in-Range
returns-in_ok-value-in-Range c = then _ _ _ _ _ _ (λ n. spec.when (view_when n c.args.x.now))
    c.in_ok-value-in-Range.ensures c.value-in-Range-2.ensures (λ n. rw (c.in-Range.is) refl)
