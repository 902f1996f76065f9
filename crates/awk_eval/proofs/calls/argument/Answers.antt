use Rattle.awk_eval.proofs.Calling.{argue_name, argue_nothing, argue_value, some_of}
use Rattle.awk_forms.proofs.Leading.{hands_on, quietly}
use Rattle.awk_streams.proofs.Chain.{at_once, done}
use Rattle.awk_store.specs.Calls.{argument_of}
use Rattle.awk_machine.specs.Forms.{value}
use Rattle.awk_machine.specs.Pieces.{At, Value_of}
use Rattle.awk_program.specs.View.{view}
use Rattle.awk_store.specs.Wholes.{names_in}
use Rattle.std.proofs.Common.{ap, refl, ◌∙◌, ◌∷◌}
use Rattle.awk_eval.proofs.calls.argument.Goals as goal
use Rattle.awk_program.specs.Program as p

pub returns-in-Value : goal.returns-in-Value
returns-in-Value g c =
    record {
      plays = λ m is q n ys ws got. hands_on (λ k. refl)
          (quietly {then_ = λ k. value (view (names_in m) c.in-Value.x) ∷ At (Value_of (p.call q n ys)) ws ∷ k}
          (at_once _ _ _) (λ k hid d a. argue_value m q n ys ws _ (got ∙ ap (λ y. some_of (argument_of (names_in m) y))
          c.in-Value.is) k _)) (c.value.ensures.plays m is);
      owns = c.value.ensures.owns;
    }

pub returns-in-Array : goal.returns-in-Array
returns-in-Array g c =
    record {
      plays = λ m is q n ys ws got. done
          (quietly (at_once _ _ _) (λ k hid d a. argue_name m q n ys ws _
          (got ∙ ap (λ y. some_of (argument_of (names_in m) y)) c.in-Array.is) k _));
      owns = c.requires.owns;
    }

pub returns-in-Nothing : goal.returns-in-Nothing
returns-in-Nothing g c =
    record {
      plays = λ m is q n ys ws got. done
          (quietly (at_once _ _ _) (λ k hid d a. argue_nothing m q n ys ws
          (got ∙ ap (λ y. some_of (argument_of (names_in m) y)) c.in-Nothing.is) k _));
      owns = c.requires.owns;
    }
