use Rattle.awk_text.specs.Lents.{lent_value}
use Rattle.awk_text.specs.declared.place.Place.{Place}
use Rattle.awk_machine.specs.Operators.{of_truth}
use Rattle.awk_program.specs.Program as p
use Rattle.awk_program.specs.View.{view}
use Rattle.awk_store.specs.Wholes.{names_in}
use Rattle.std.specs.Prelude.{Ok, ◌≡◌}
use Rattle.awk_builtins.specs.Shown.{compared_by}
use Rattle.awk_builtins.proofs.AtHand.{truth_back}
use Rattle.awk_builtins.proofs.Comparing.{comparison_there}
use Rattle.awk_builtins.proofs.Rests.{some_for}
use Rattle.awk_builtins.proofs.at_hand.tests.compared_values.Goals as goal

pub returns : goal.returns
returns c =
    some_for {P = λ b. compared_by c.args.store.now c.args.how (lent_value c.in_ok-left.left)
    (lent_value c.in_ok-right.right) ≡ Ok (of_truth b)} c.compared_there.result
    (λ b is q. record {
      val = of_truth b;
      is = truth_back c.args.store.now.numbers b;
      there = λ g t. comparison_there g (c.args.store.now, t) q c.args.how
          (view (names_in g) c.args.x.now) (view (names_in g) c.args.y.now) (lent_value c.in_ok-left.left)
          (lent_value c.in_ok-right.right) (of_truth b) (c.in_ok-left.ensures g t) (c.in_ok-right.ensures g t) is;
    }) c.compared_there.ensures
