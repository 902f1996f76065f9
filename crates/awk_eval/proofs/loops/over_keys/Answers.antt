use Rattle.awk_eval.proofs.Going.{keys_first}
use Rattle.awk_forms.proofs.Leading.{quietly}
use Rattle.awk_streams.proofs.Chain.{at_once, lacking, passes}
use Rattle.awk_machine.specs.Forms.{value}
use Rattle.awk_machine.specs.Pieces.{Do, Keys}
use Rattle.awk_program.specs.View.{variable_of, view_statement}
use Rattle.awk_store.proofs.Agreeing.{array-so}
use Rattle.awk_store.specs.Wholes.{names_in}
use Rattle.std.proofs.Common.{◌∷◌}
use Rattle.awk_eval.proofs.loops.over_keys.Goals as goal

pub returns-in_default : goal.returns-in_default
returns-in_default g c =
    record { plays = λ m is. rw c.keys.ensures.same (lacking (at_once _ _ _)); owns = c.requires.owns }

pub returns : goal.returns
returns g c =
    record {
      plays = λ m is. passes
          (quietly {then_ = λ k. Do (Keys c.args.place (variable_of (names_in m) c.args.variable)
          (view_statement (names_in m) c.args.inner.now) c.in-Ok.keys.items) ∷ k} (at_once _ _ _)
          (λ k hid d a. keys_first m c.args.place (variable_of (names_in m) c.args.variable)
          (variable_of (names_in m) c.args.array) (view_statement (names_in m) c.args.inner.now) _ c.in-Ok.keys.items k _
          (array-so m _ hid d a c.args.array) c.in-Ok.ensures.ok)) (rw (c.in-Ok.ensures.same, c.as_slice.ensures.value) at
          (c.over.ensures.plays m is));
      owns = c.over.ensures.owns;
    }
