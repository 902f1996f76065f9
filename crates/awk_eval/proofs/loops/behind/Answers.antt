use Rattle.awk_eval.proofs.Going.{turn_first, turn_none, turn_then}
use Rattle.awk_forms.proofs.Leading.{hands_on, quietly, rests}
use Rattle.awk_eval.specs.Loops.{loop_of}
use Rattle.awk_streams.proofs.Chain.{at_once, done}
use Rattle.awk_program.specs.View.{view}
use Rattle.awk_store.specs.Wholes.{names_in}
use Rattle.std.proofs.Common.{ap, refl}
use Rattle.std.specs.Prelude.{option_copied, option_map}
use Rattle.awk_eval.proofs.loops.behind.Goals as goal

pub returns-in_default : goal.returns-in_default
returns-in_default g c =
    record {
      plays = λ m is. done
          (quietly (at_once _ _ _)
          (λ k hid d a. turn_none m (loop_of (names_in m) (option_copied c.args.test) c.args.inner.now
          (option_copied c.args.after)) k _ (ap (λ o. option_map (view (names_in m)) (option_copied o))
          c.in_default.is)));
      owns = c.requires.owns;
    }

pub returns : goal.returns
returns g c =
    record {
      plays = λ m is. rests
          (hands_on (λ k. refl)
          (quietly (at_once _ _ _)
          (λ k hid d a. turn_first m (loop_of (names_in m) (option_copied c.args.test) c.args.inner.now
          (option_copied c.args.after)) (view (names_in m) c.in-Some.after.now) k _
          (ap (λ o. option_map (view (names_in m)) (option_copied o)) c.in-Some.is))) (c.effect.ensures.does.plays m is))
          (λ x k hid d a. turn_then m (loop_of (names_in m) (option_copied c.args.test) c.args.inner.now
          (option_copied c.args.after)) (view (names_in m) c.in-Some.after.now) c.effect.ensures.val k _
          (ap (λ o. option_map (view (names_in m)) (option_copied o)) c.in-Some.is));
      owns = c.effect.ensures.does.owns;
    }
