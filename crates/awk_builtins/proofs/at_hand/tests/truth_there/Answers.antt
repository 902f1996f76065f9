use Rattle.std.proofs.Common.{map}
use Rattle.awk_program.specs.Program as p
use Rattle.awk_program.specs.Program.{expressions_of}
use Rattle.awk_program.specs.View.{view}
use Rattle.awk_program.proofs.Views.{view-And, view-Not, view-Or}
use Rattle.awk_builtins.specs.AtHand.{HasTruth}
use Rattle.awk_builtins.proofs.Rests.{some_for}
use Rattle.awk_builtins.proofs.at_hand.tests.truth_there.Goals as goal

pub returns-in-And : goal.returns-in-And
returns-in-And c =
    some_for {P = λ b. HasTruth (λ names. p.and (view names c.get.result.now)
    (expressions_of (map (view names) c.as_slice.result.now))) c.args.store.now b} c.all_are_true.result
    (λ b h. record {
      val = h.val;
      is = h.is;
      there = λ g t. rw (c.in-And.is, view-And)
          (rw (c.get.ensures, c.as_slice.ensures) at (h.there g t));
    }) c.all_are_true.ensures

pub returns-in-Or : goal.returns-in-Or
returns-in-Or c =
    some_for {P = λ b. HasTruth (λ names. p.or (view names c.get-in-Or.result.now)
    (expressions_of (map (view names) c.as_slice-in-Or.result.now))) c.args.store.now b} c.one_is_true.result
    (λ b h. record {
      val = h.val;
      is = h.is;
      there = λ g t. rw (c.in-Or.is, view-Or)
          (rw (c.get-in-Or.ensures, c.as_slice-in-Or.ensures) at (h.there g t));
    }) c.one_is_true.ensures

pub returns-in-Not : goal.returns-in-Not
returns-in-Not c =
    some_for {P = λ b. HasTruth (λ names. p.not (view names c.get-in-Not.result.now)) c.args.store.now b}
    c.is_untrue.result
    (λ b h. record {
      val = h.val;
      is = h.is;
      there = λ g t. rw (c.in-Not.is, view-Not)
          (rw c.get-in-Not.ensures at (h.there g t));
    }) c.is_untrue.ensures
