use Rattle.std.proofs.Common.{◌≡◌}
use Rattle.awk_text.specs.Lents.{lent_value}
use Rattle.awk_builtins.proofs.Rests.{some_for}
use Rattle.awk_builtins.proofs.at_hand.values.called_there.Goals as goal

pub returns-in-Tolower : goal.returns-in-Tolower
returns-in-Tolower c = rw c.in-Tolower.is c.cased_there.ensures

pub returns-in-Toupper : goal.returns-in-Toupper
returns-in-Toupper c = rw c.in-Toupper.is c.cased_there-in-Toupper.ensures

pub returns-in_ok-value-in_default : goal.returns-in_ok-value-in_default
returns-in_ok-value-in_default c =
    some_for {P = λ new. new ≡ lent_value c.in_ok-value-in_default.value} c.owned.result
    (λ new is q g t. rw is (c.in_ok-value-in_default.ensures q g t)) c.owned.ensures
