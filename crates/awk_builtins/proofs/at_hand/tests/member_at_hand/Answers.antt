use Rattle.awk_machine.specs.Operators.{of_truth}
use Rattle.awk_program.specs.View.{view}
use Rattle.awk_store.specs.Wholes.{names_in}
use Rattle.awk_text.specs.Lents.{lent_value}
use Rattle.awk_builtins.proofs.AtHand.{truth_back}
use Rattle.awk_builtins.proofs.Truths.{member_of_one}
use Rattle.awk_builtins.proofs.at_hand.tests.member_at_hand.Goals as goal

pub returns : goal.returns
returns c = record {
  val = of_truth c.contains.result;
  is = truth_back c.args.store.now.numbers c.contains.result;
  there = λ g t. rw (c.contains.ensures, c.text.ensures)
      (member_of_one g (c.args.store.now, t) (view (names_in g) c.args.x.now) c.args.arrays.now _
      (lent_value c.in_ok-key.key) c.in-len1.len_at_least c.in-len1.len_below (c.in_ok-key.ensures g t));
}
