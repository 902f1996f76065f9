use Rattle.std.proofs.Common.{ap, ◌∙◌}
use Rattle.std.specs.Prelude.{not}
use Rattle.awk_machine.specs.Operators.{of_truth}
use Rattle.awk_program.specs.View.{view}
use Rattle.awk_store.specs.Wholes.{names_in}
use Rattle.awk_text.specs.Values.{truth}
use Rattle.awk_builtins.proofs.AtHand.{truth_back}
use Rattle.awk_builtins.proofs.Truths.{not_there}
use Rattle.awk_builtins.proofs.at_hand.tests.is_untrue.Goals as goal

pub returns : goal.returns
returns c =
    let h = c.in_ok-holds.ensures in
    record {
      val = of_truth (not (truth c.args.store.now.numbers h.val));
      is = truth_back c.args.store.now.numbers (not (truth c.args.store.now.numbers h.val)) ∙ ap not h.is;
      there =
          λ g t. not_there g (c.args.store.now, t) (view (names_in g) c.args.x.now) h.val (h.there g t);
    }
