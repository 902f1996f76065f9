use Rattle.std.proofs.Common.{arith}
use Rattle.std.proofs.lemmas.Bool.Decides.{nat_tests}
use Rattle.awk_ere.proofs.Making.{ends_marked}
use Rattle.awk_ere.proofs.closure.ends_in.Goals as goal

pub returns-clause-ends : goal.returns-clause-ends
returns-clause-ends c = ends_marked _ _ _ c.least-ends.result _ c.requires.some c.in_ok-lead.ensures.led
    c.least-ends.ensures ((λ t. grind (arith, nat_tests, t)), (λ h. grind (arith, nat_tests, h)))
