use Rattle.awk_eval.proofs.Going.{test_first, test_none, test_then}
use Rattle.awk_forms.proofs.Leading.{hands_on, quietly, rests_told}
use Rattle.awk_eval.specs.Loops.{loop_of}
use Rattle.awk_streams.proofs.Chain.{at_once, done}
use Rattle.awk_program.specs.View.{view}
use Rattle.awk_store.specs.Wholes.{names_in}
use Rattle.std.proofs.Common.{ap, refl}
use Rattle.std.specs.Prelude.{option_copied, option_map}
use Rattle.awk_eval.proofs.loops.holds.Goals as goal

pub returns-in-None : goal.returns-in-None
returns-in-None g c =
    record {
      plays = λ m is. done
          (quietly (at_once _ _ _)
          (λ k hid d a. test_none m (loop_of (names_in m) (option_copied c.args.test) c.args.inner.now
          (option_copied c.args.after)) k _ (ap (λ o. option_map (view (names_in m)) (option_copied o)) c.in-None.is)));
      owns = c.requires.owns;
    }

pub returns-in-Some : goal.returns-in-Some
returns-in-Some g c =
    record {
      plays = λ m is. rests_told c.truth_of.ensures.val c.truth_of.ensures.is
          (hands_on (λ k. refl)
          (quietly (at_once _ _ _)
          (λ k hid d a. test_first m (loop_of (names_in m) (option_copied c.args.test) c.args.inner.now
          (option_copied c.args.after)) (view (names_in m) c.in-Some.test.now) k _
          (ap (λ o. option_map (view (names_in m)) (option_copied o)) c.in-Some.is)))
          (c.truth_of.ensures.does.plays m is))
          (λ b so k hid d a. rw so (test_then m (loop_of (names_in m) (option_copied c.args.test) c.args.inner.now
          (option_copied c.args.after)) (view (names_in m) c.in-Some.test.now) c.truth_of.ensures.val k _
          (ap (λ o. option_map (view (names_in m)) (option_copied o)) c.in-Some.is)));
      owns =
          c.truth_of.ensures.does.owns;
    }
