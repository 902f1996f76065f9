use Rattle.std.proofs.Common.{◌≡◌}
use Rattle.awk_text.specs.Lents.{lent_value}
use Rattle.awk_builtins.proofs.Rests.{some_for}
use Rattle.awk_builtins.proofs.at_hand.values.value_there.Goals as goal

pub returns : goal.returns
returns c = some_for {P = λ x. x ≡ lent_value c.in_ok-value.value} c.owned.result
    (λ x is g t. rw is (c.in_ok-value.ensures g t)) c.owned.ensures
