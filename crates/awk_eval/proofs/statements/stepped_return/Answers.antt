use Rattle.awk_forms.proofs.Leading.{quietly}
use Rattle.awk_streams.proofs.Chain.{at_once, lacking, part, passes, stop}
use Rattle.awk_store.proofs.Leading.{takes}
use Rattle.awk_machine.specs.Pieces.{At, Do, Doing, Step}
use Rattle.awk_program.proofs.Views.{statement-Return}
use Rattle.awk_program.specs.Program as p
use Rattle.awk_program.specs.View.{view}
use Rattle.awk_store.specs.Wholes.{names_in}
use Rattle.std.proofs.Common.{[], refl, sym, ◌∙◌, ◌∷◌}
use Rattle.std.proofs.lemmas.Result.{err_from_is_err_and}
use Rattle.std.specs.Prelude.{option_map}
use Rattle.awk_eval.proofs.statements.stepped_return.Goals as goal

pub returns-in_default-below : goal.returns-in_default-below
returns-in_default-below g c =
    record { plays = λ m is. lacking (at_once _ _ _); owns = c.requires.owns }

pub returns-in_err-step : goal.returns-in_err-step
returns-in_err-step g c =
    let e = err_from_is_err_and c.from_residual.result c.from_residual.ensures.1 in
    rw (e.1, e.2) (record {
      plays = λ m is. rw (c.in-Return.is, statement-Return)
          (stop _ (λ k. refl) (quietly {then_ =
          λ k. Do Step ∷ At (Doing (p.return (option_map (view (names_in m)) c.in-Return.answer))) [] ∷ k} (at_once _ _ _)
          (λ k hid d a. refl)) (takes (is.host.bound ∙ sym c.bound.ensures) (c.step.ensures c.args.run.now.streams))
          c.in_err-step.was);
      owns = c.requires.owns;
    })

pub returns : goal.returns
returns g c =
    record {
      plays = λ m is. rw (c.in-Return.is, statement-Return)
          (passes (part _ (quietly {then_ =
          λ k. Do Step ∷ At (Doing (p.return (option_map (view (names_in m)) c.in-Return.answer))) [] ∷ k} (at_once _ _ _)
          (λ k hid d a. refl)) (takes (is.host.bound ∙ sym c.bound.ensures) (c.step.ensures c.args.run.now.streams))
          c.in_ok-step.was) (c.give_back.ensures.plays m is));
      owns = c.give_back.ensures.owns;
    }
