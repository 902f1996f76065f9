use Rattle.std.proofs.Common.{rules, w64}
use Rattle.std.proofs.lemmas.Int.{to_z-of_z}
use Rattle.awk_machine.specs.Operators.{of_truth}
use Rattle.awk_program.specs.View.{view}
use Rattle.awk_store.specs.Wholes.{names_in}
use Rattle.awk_builtins.proofs.AtHand.{truth_back}
use Rattle.awk_builtins.proofs.Comparing.{numbers_compared}
use Rattle.awk_builtins.proofs.at_hand.tests.compared_with.Goals as goal

pub returns-in-Some : goal.returns-in-Some
returns-in-Some c = λ q x left.
    let h = c.in-Some.ensures in
    record {
      val = of_truth c.compared_numbers.result;
      is = truth_back c.args.store.now.numbers c.compared_numbers.result;
      there = λ g t. rw (
        c.compared_numbers.ensures,
        to_z-of_z w64 c.args.left (search rules),
        to_z-of_z w64 c.in-Some.right (search rules),
      )
          (numbers_compared g (c.args.store.now, t) q c.args.how (x (names_in g)) (view (names_in g) c.args.y.now)
          c.args.left c.in-Some.right h.val (left g t) (h.there g t) h.looks);
    }
