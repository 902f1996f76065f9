use Rattle.awk_forms.proofs.Leading.{quietly}
use Rattle.awk_streams.proofs.Chain.{at_once, done, part, stop}
use Rattle.awk_machine.specs.Pieces.{Goes, give}
use Rattle.awk_machine.specs.Operators.{of_truth}
use Rattle.awk_machine.specs.Streams.{seen}
use Rattle.awk_store.specs.Wholes.{base}
use Rattle.std.proofs.Common.{ap, not, refl, sym}
use Rattle.std.proofs.lemmas.Result.{err_from_is_err_and}
use Rattle.awk_forms.proofs.tests.is_untrue.Goals as goal

pub returns-in_err-found : goal.returns-in_err-found
returns-in_err-found g c =
    let e = err_from_is_err_and c.from_residual.result c.from_residual.ensures.1 in
    rw (e.1, e.2) (record {
      plays = λ m is. stop _ (λ k. refl) (quietly (at_once _ _ _) (λ k hid d a. refl))
          (c.operand.ensures.plays m is) c.in_err-found.was;
      owns = c.operand.ensures.owns;
    })

pub returns : goal.returns
returns g c =
    record {
      plays = λ m is. done
          (quietly (part _ (quietly (at_once _ _ _) (λ k hid d a. refl))
          (c.operand.ensures.plays m is) c.in_ok-found.was)
          (λ k hid d a. ap (λ b. Goes (give (of_truth (not b)) k)
          (seen (base m (c.operand.new.run.store, c.operand.new.run.streams) hid) d)) (sym
          (rw c.numbers.ensures at c.truth.ensures))));
      owns =
          c.operand.ensures.owns;
    }
