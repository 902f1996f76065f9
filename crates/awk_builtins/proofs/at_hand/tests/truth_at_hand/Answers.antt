use Rattle.awk_program.specs.Program as p
use Rattle.awk_text.specs.declared.place.Place.{Place}
use Rattle.awk_program.specs.View.{view}
use Rattle.awk_program.proofs.Views.{view-Compare}
use Rattle.awk_builtins.specs.AtHand.{HasTruth}
use Rattle.awk_builtins.proofs.Rests.{some_for}
use Rattle.awk_builtins.proofs.at_hand.tests.truth_at_hand.Goals as goal

pub returns-in-Compare : goal.returns-in-Compare
returns-in-Compare c =
    some_for {P = λ b. (q : Place) → HasTruth (λ names. p.compare q c.in-Compare.how (view names c.get.result.now)
    (view names c.get-in-Compare.result.now)) c.args.store.now b} c.compared_at_hand.result
    (λ b told. let h = told c.in-Compare.field-0 in record {
      val = h.val;
      is = h.is;
      there = λ g t. rw (c.in-Compare.is, view-Compare)
          (rw (c.get.ensures, c.get-in-Compare.ensures) at (h.there g t));
    }) c.compared_at_hand.ensures

pub returns-in-Some : goal.returns-in-Some
returns-in-Some c = c.in-Some.ensures
