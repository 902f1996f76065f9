use Rattle.std.proofs.Common.{rules, w64}
use Rattle.std.proofs.lemmas.Int.{to_z-of_z}
use Rattle.awk_machine.specs.Operators.{of_truth}
use Rattle.awk_program.specs.Program as p
use Rattle.awk_text.specs.declared.place.Place.{Place}
use Rattle.awk_program.specs.View.{Names, view}
use Rattle.awk_store.specs.Wholes.{names_in}
use Rattle.awk_text.specs.declared.value.Value.TheVariants as v
use Rattle.awk_builtins.specs.AtHand.{HasTruth, IsThere}
use Rattle.awk_builtins.proofs.AtHand.{truth_back}
use Rattle.awk_builtins.proofs.Comparing.{number_beside}
use Rattle.awk_builtins.proofs.Rests.{some_for}
use Rattle.awk_builtins.proofs.at_hand.tests.compared_at_hand.Goals as goal

pub returns-in-Some-plain_number : goal.returns-in-Some-plain_number
returns-in-Some-plain_number c = λ q. record {
  val = of_truth c.compared_numbers.result;
  is = truth_back c.args.store.now.numbers c.compared_numbers.result;
  there = λ g t. rw (
    c.compared_numbers.ensures,
    to_z-of_z w64 c.in-Some.left (search rules),
    to_z-of_z w64 c.in-Some-plain_number.right (search rules),
  )
      (number_beside g (c.args.store.now, t) q c.args.how (view (names_in g) c.args.x.now)
      (view (names_in g) c.args.y.now) c.in-Some.left (v.Num c.in-Some-plain_number.right)
      (c.in-Some.ensures g t) (c.in-Some-plain_number.ensures g t));
}

pub returns-in-None : goal.returns-in-None
returns-in-None c =
    some_for {P = λ b. (q : Place) (x : Names → p.Expression) → IsThere x c.args.store.now (v.Num c.in-Some.left)
    → HasTruth (λ names. p.compare q c.args.how (x names) (view names c.args.y.now)) c.args.store.now b}
    c.compared_with.result
    (λ b h q. h q (λ names. view names c.args.x.now) c.in-Some.ensures) (rw (to_z-of_z w64 c.in-Some.left (search rules)) at
    c.compared_with.ensures)
