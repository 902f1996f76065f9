use Rattle.std.proofs.Common.{Some, subst}
use Rattle.awk_ere.specs.Tree.{StandsAny}
use Rattle.awk_ere.proofs.tree.with_times.Goals as goal

pub returns-in_ok-item-in-Some : goal.returns-in_ok-item-in-Some
returns-in_ok-item-in-Some c =
    λ sets b p q h. (
      h.0,
      h.1,
      c.in_ok-item-in-Some.ensures sets q (subst (λ x. StandsAny sets x (Some q)) c.in-Some.is
          h.2),
    )
