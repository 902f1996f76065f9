use Rattle.std.proofs.Common.{ap, of_z, rules, subst, sym, to_z, w64, ◌∙◌}
use Rattle.std.proofs.lemmas.Int.{to_z-of_z}
use Rattle.awk_text.specs.Lents.{lent_value}
use Rattle.awk_machine.specs.Operators.{compared, of_truth}
use Rattle.awk_program.specs.View.{view}
use Rattle.awk_store.specs.Wholes.{names_in}
use Rattle.awk_text.specs.declared.value.Value.TheVariants as v
use Rattle.awk_builtins.specs.AtHand.{IsThere}
use Rattle.awk_builtins.proofs.AtHand.{truth_back}
use Rattle.awk_builtins.proofs.Comparing.{number_beside}
use Rattle.awk_builtins.proofs.at_hand.tests.compared_beside.Goals as goal

pub returns : goal.returns
returns c = λ q x left.
    let left' = subst (λ n. IsThere x c.args.store.now (v.Num n)) (sym (to_z-of_z w64 c.args.left (search rules))) left
    in
    record {
      val = of_truth c.compared_lent.result;
      is = truth_back c.args.store.now.numbers c.compared_lent.result;
      there = λ g t. rw (c.compared_lent.ensures ∙ ap (λ m. compared m c.args.how (v.Num (to_z w64
          (of_z w64 c.args.left))) (lent_value c.in_ok-right.right)) c.numbers.ensures)
          (number_beside g (c.args.store.now, t) q c.args.how (x (names_in g))
          (view (names_in g) c.args.y.now) _ (lent_value c.in_ok-right.right) (left' g t) (c.in_ok-right.ensures g t));
    }
