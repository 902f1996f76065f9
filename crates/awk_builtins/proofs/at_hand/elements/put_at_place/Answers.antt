use Rattle.std.proofs.Common.{arith}
use Rattle.awk_builtins.proofs.AtHand.{few_digits}
use Rattle.awk_builtins.proofs.at_hand.elements.put_at_place.Goals as goal

pub returns-in-Ok-clause-done : goal.returns-in-Ok-clause-done
returns-in-Ok-clause-done c = λ yes. (few_digits c.args.place (omega arith), c.in-Ok.ensures.ok)
