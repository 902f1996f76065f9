use Rattle.awk_streams.proofs.Chain.{at_once, part, passes, stop}
use Rattle.awk_machine.specs.Forms.{value}
use Rattle.awk_program.specs.View.{view}
use Rattle.awk_store.proofs.Acting.{acted}
use Rattle.awk_store.specs.Wholes.{names_in}
use Rattle.std.proofs.Common.{refl}
use Rattle.std.proofs.lemmas.Result.{err_from_is_err_and}
use Rattle.awk_eval.proofs.effects.effect.Goals as goal
use Rattle.awk_text.specs.declared.value.Value.TheVariants as v

pub returns-in_err-split_for_assignment : goal.returns-in_err-split_for_assignment
returns-in_err-split_for_assignment g c =
    let e = err_from_is_err_and c.from_residual.result c.from_residual.ensures.1 in
    rw (e.1, e.2) (record {
      val = v.Unset;
      is = tt;
      does =
          record {
            plays = λ m is. stop _ (λ k. refl) (at_once _ _ _)
                (acted (c.split_for_assignment.ensures m c.args.run.now.streams (value (view (names_in m)
                c.args.e.now))))
                c.in_err-split_for_assignment.was;
            owns = c.requires.owns;
          };
    })

pub returns : goal.returns
returns g c =
    let h = c.ready_effect.ensures in
    record {
      val = h.val;
      is = h.is;
      does =
          record {
            plays = λ m is. passes
                (part _ (at_once _ _ _)
                (acted (c.split_for_assignment.ensures m c.args.run.now.streams (value (view (names_in m)
                c.args.e.now))))
                c.in_ok-split_for_assignment.was) (h.does.plays m is);
            owns = h.does.owns;
          };
    }
