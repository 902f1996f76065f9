use Rattle.std.proofs.Common.{rules, w64}
use Rattle.std.proofs.lemmas.Int.{to_z-of_z}
use Rattle.awk_builtins.proofs.at_hand.tests.plain_value.Goals as goal

pub returns : goal.returns
returns c = λ g t. rw (to_z-of_z w64 c.in_ok-number.number (search rules)) (c.in_ok-number.ensures g t)
