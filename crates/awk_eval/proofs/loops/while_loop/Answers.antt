use Rattle.awk_forms.proofs.Leading.{quietly}
use Rattle.awk_streams.proofs.Chain.{at_once, passes}
use Rattle.std.proofs.Common.{refl}
use Rattle.awk_eval.proofs.loops.while_loop.Goals as goal

pub returns : goal.returns
returns g c =
    record {
      plays = λ m is. passes (quietly (at_once _ _ _) (λ k hid d a. refl)) (c.turns.ensures.plays m is);
      owns =
          c.turns.ensures.owns;
    }
