use Rattle.std.proofs.Common.{refl, sym, ◌∙◌, map}
use Rattle.std.specs.Prelude.{true}
use Rattle.awk_machine.specs.Operators.{of_truth}
use Rattle.awk_program.specs.Program.{expressions_of}
use Rattle.awk_program.specs.View.{view}
use Rattle.awk_store.specs.Wholes.{names_in}
use Rattle.awk_text.specs.Values.{truth}
use Rattle.awk_builtins.proofs.AtHand.{truth_back}
use Rattle.awk_builtins.proofs.Truths.{or_done, or_ends, or_first, or_next}
use Rattle.awk_builtins.proofs.at_hand.tests.one_is_true.Goals as goal

pub loop-y-init : goal.loop-y-init
loop-y-init c =
    let h = c.in_ok-last.ensures in
    record {
      val = h.val;
      is = sym h.is;
      along = λ g t. or_first g (c.args.store.now, t)
          (view (names_in g) c.args.x.now) (expressions_of (map (view (names_in g)) c.args.xs.now)) h.val (h.there g t);
    }

pub returns-then-last : goal.returns-then-last
returns-then-last c =
    let l = c.loop-y.invariant in
    record {
      val = of_truth true;
      is = refl;
      there = λ g t. or_ends g (c.args.store.now, t) c.args.xs.now
          c.loop-y.y-index c.y-item.result l.val c.loop-y-test.true c.y-item.is (sym l.is ∙ c.if-last.true)
          (l.along g t);
    }

pub loop-y-preserved : goal.loop-y-preserved
loop-y-preserved c =
    let l = c.loop-y.invariant in
    let h = c.in_ok-last-2.ensures in
    record {
      val = h.val;
      is = sym h.is;
      along = λ g t. or_next g (c.args.store.now, t) c.args.xs.now c.loop-y.y-index c.y-item.result l.val h.val
          c.loop-y-test.true c.y-item.is (sym l.is ∙ c.if-last.false) (h.there g t) (l.along g t);
    }

pub returns : goal.returns
returns c =
    let l = c.loop-y.invariant in
    record {
      val = of_truth (truth c.args.store.now.numbers l.val);
      is = truth_back c.args.store.now.numbers (truth c.args.store.now.numbers l.val) ∙ sym l.is;
      there =
          λ g t. or_done g (c.args.store.now, t) c.args.xs.now c.loop-y.y-index l.val c.loop-y-test.false (l.along g t);
    }
