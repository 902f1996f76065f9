use Rattle.std.proofs.Common.{map}
use Rattle.awk_program.specs.Program as p
use Rattle.awk_text.specs.declared.place.Place.{Place}
use Rattle.awk_program.specs.View.{variable_of, view}
use Rattle.awk_program.proofs.Views.{view-Compare, view-In}
use Rattle.awk_builtins.specs.AtHand.{HasTruth}
use Rattle.awk_builtins.proofs.Rests.{some_for}
use Rattle.awk_builtins.proofs.at_hand.tests.part_is_true.Goals as goal

pub returns-in-Compare : goal.returns-in-Compare
returns-in-Compare c =
    some_for {P = λ b. (q : Place) → HasTruth (λ names. p.compare q c.in-Compare.how (view names c.get.result.now)
    (view names c.get-in-Compare.result.now)) c.args.store.now b} c.compared_at_hand.result
    (λ b told. let h = told c.in-Compare.field-0 in record {
      val = h.val;
      is = h.is;
      there = λ g t. rw (c.in-Compare.is, view-Compare)
          (rw (c.get.ensures, c.get-in-Compare.ensures) at (h.there g t));
    }) c.compared_at_hand.ensures

pub returns-in-In : goal.returns-in-In
returns-in-In c =
    some_for {P = λ b. HasTruth (λ names. p.member (view names c.get-in-In.result.now)
    (map (variable_of names) c.as_slice.result.now)) c.args.store.now b} c.member_at_hand.result
    (λ b h. record {
      val = h.val;
      is = h.is;
      there = λ g t. rw (c.in-In.is, view-In)
          (rw (c.get-in-In.ensures, c.as_slice.ensures) at (h.there g t));
    }) c.member_at_hand.ensures
