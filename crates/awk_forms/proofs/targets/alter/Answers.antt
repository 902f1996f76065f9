use Rattle.awk_streams.proofs.Chain.{at_once, done, part, stop}
use Rattle.std.proofs.Common.{refl}
use Rattle.std.proofs.lemmas.Result.{err_from_is_err_and}
use Rattle.awk_forms.proofs.targets.alter.Goals as goal
use Rattle.awk_text.specs.declared.value.Value.TheVariants as v

pub returns-in_err-change : goal.returns-in_err-change
returns-in_err-change g c =
    let e = err_from_is_err_and c.from_residual.result c.from_residual.ensures.1 in
    rw (e.1, e.2) (record {
      val = v.Unset;
      is = tt;
      does =
          record {
            plays = λ m is. stop _ (λ k. refl) (at_once _ _ _) (c.change.ensures.plays m is) c.in_err-change.was;
            owns = c.change.ensures.owns;
          };
    })

pub returns : goal.returns
returns g c =
    record {
      val = c.in_ok-change.field-0;
      is = tt;
      does =
          record {
            plays = λ m is. done (part _ (at_once _ _ _) (c.change.ensures.plays m is) c.in_ok-change.was);
            owns = c.change.ensures.owns;
          };
    }
