use Rattle.std.specs.Prelude.{Ok, ◌≡◌}
use Rattle.awk_text.specs.Lents.{lent_value}
use Rattle.awk_machine.specs.Operators.{of_truth}
use Rattle.awk_builtins.specs.Shown.{compared_by}
use Rattle.awk_builtins.proofs.Rests.{some_for}
use Rattle.awk_builtins.proofs.at_hand.tests.compared_behind.Goals as goal

pub returns : goal.returns
returns c =
    some_for {P = λ b. compared_by c.args.store.now c.args.how (lent_value c.of.result)
    (lent_value c.in_ok-right.right) ≡ Ok (of_truth b)} c.compared_there.result
    (λ b is. (lent_value c.in_ok-right.right, c.in_ok-right.ensures, rw c.of.ensures at is)) c.compared_there.ensures
