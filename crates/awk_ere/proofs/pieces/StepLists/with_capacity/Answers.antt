use Rattle.std.proofs.Common.{ap}
use Rattle.awk_ere.specs.Cuts.{pieces}
use Rattle.awk_ere.proofs.pieces.StepLists.with_capacity.Goals as goal

pub returns : goal.returns
returns c = ap (λ es. pieces 0 c.in_ok-steps.steps.items es) c.in_ok-ends.ensures.items
